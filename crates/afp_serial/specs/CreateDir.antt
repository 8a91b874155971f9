-- FPCreateDir (AFP Reference, "FPCreateDir"): it tells the id of the new directory, which is the next id of the volume before.
use Rattle.std.specs.Prelude.{ℕ}
use Rattle.afp_base.specs.declared.ids.NodeId.{NodeId}
use Rattle.afp_names.specs.Path.{PathValue}
use Rattle.afp_replies.specs.declared.reply.Reply.TheVariants.{Node}
use Rattle.volume_spec.specs.CreateDir.{create_dir_id}
use Rattle.volume_spec.specs.TreeSteps.{CreateDir}
use Rattle.afp_serial.specs.World.{CallRow}
use Rattle.afp_serial.specs.OnVolume.{changes_tree}

-- the id of a node, as a reply has it
abbrev pub node_id : ℕ → NodeId
node_id id = record { 0 = id }

abbrev pub create_dir_row : ℕ → ℕ → PathValue → CallRow
create_dir_row volume dir path = changes_tree volume (CreateDir dir path) (λ v. Node (node_id (create_dir_id v)))
