use Rattle.std.proofs.Common.{◌∙◌, ◌==◌, Bool, sym}
use Rattle.afp_base.specs.declared.ids.NodeId.{NodeId}
use Rattle.volume_spec.specs.Shared.{Opened, is_busy}
use Rattle.volume_tree.proofs.asked.is_busy.Goals as goal
use Rattle.afp_base.proofs.ListFacts.{any-map}

pub returns : goal.returns
unfolding is_busy
returns c = c.has_node.ensures ∙ sym (any-map (λ (f : Opened). f.node == c.args.id.0) (λ (open_fork : NodeId × Bool). record { node = open_fork.0.0; resource = open_fork.1 }) c.args.opens.now)
