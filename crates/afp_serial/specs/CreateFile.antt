-- FPCreateFile (AFP Reference, "FPCreateFile").
use Rattle.std.specs.Prelude.{ℕ}
use Rattle.afp_names.specs.Path.{PathValue}
use Rattle.afp_replies.specs.declared.reply.Reply.TheVariants.{Empty}
use Rattle.volume_spec.specs.CreateFile.{is_hard}
use Rattle.volume_spec.specs.TreeSteps.{CreateFile}
use Rattle.afp_serial.specs.World.{CallRow}
use Rattle.afp_serial.specs.OnVolume.{changes_tree}

abbrev pub create_file_row : ℕ → ℕ → ℕ → PathValue → CallRow
create_file_row flag volume dir path = changes_tree volume (CreateFile (is_hard flag) dir path) (λ v. Empty)
