-- FPSetFileParms, FPSetDirParms and FPSetFileDirParms (AFP Reference, under these names).
use Rattle.std.specs.Prelude.{ℕ, List}
use Rattle.afp_names.specs.Path.{PathValue}
use Rattle.afp_replies.specs.declared.reply.Reply.TheVariants.{Empty}
use Rattle.volume_spec.specs.SetFileDirParms.{set_dir_parms_behind}
use Rattle.volume_spec.specs.TreeSteps.{SetDirParms, SetFileDirParms, SetFileParms}
use Rattle.afp_serial.specs.World.{CallRow}
use Rattle.afp_serial.specs.OnVolume.{changes_tree, changes_tree_unless}
use Rattle.afp_serial.specs.Users.{user_ids}

abbrev pub set_file_parms_row : ℕ → ℕ → ℕ → PathValue → List ℕ → CallRow
set_file_parms_row volume dir bits path tail = changes_tree volume (SetFileParms dir bits path tail) (λ v. Empty)

abbrev pub set_dir_parms_row : ℕ → ℕ → ℕ → PathValue → List ℕ → CallRow
set_dir_parms_row volume dir bits path tail =
    changes_tree_unless (λ w. set_dir_parms_behind (user_ids w.house.users) bits tail) volume (SetDirParms dir bits path tail) (λ v. Empty)

abbrev pub set_file_dir_parms_row : ℕ → ℕ → ℕ → PathValue → List ℕ → CallRow
set_file_dir_parms_row volume dir bits path tail = changes_tree volume (SetFileDirParms dir bits path tail) (λ v. Empty)
