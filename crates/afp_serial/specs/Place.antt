-- FPDelete, FPRename and FPMoveAndRename (AFP Reference, under these names).
use Rattle.std.specs.Prelude.{ℕ}
use Rattle.afp_names.specs.Path.{PathValue}
use Rattle.afp_replies.specs.declared.reply.Reply.TheVariants.{Empty}
use Rattle.volume_spec.specs.TreeSteps.{Delete, MoveAndRename, Rename}
use Rattle.afp_serial.specs.World.{CallRow}
use Rattle.afp_serial.specs.OnVolume.{changes_tree}

abbrev pub delete_row : ℕ → ℕ → PathValue → CallRow
delete_row volume dir path = changes_tree volume (Delete dir path) (λ v. Empty)

abbrev pub rename_row : ℕ → ℕ → PathValue → PathValue → CallRow
rename_row volume dir path new_path = changes_tree volume (Rename dir path new_path) (λ v. Empty)

abbrev pub move_and_rename_row : ℕ → ℕ → PathValue → ℕ → PathValue → PathValue → CallRow
move_and_rename_row volume dir path target_dir target_path new_path = changes_tree volume (MoveAndRename dir path target_dir target_path new_path) (λ v. Empty)
