use Rattle.std.proofs.Common.{◌==◌, ◌&&◌, ◌∙◌, Bool, not, sym}
use Rattle.std.specs.Prelude.{if◌then◌else◌}
use Rattle.afp_base.specs.declared.ids.NodeId.{NodeId}
use Rattle.volume_spec.specs.Shared.{Opened}
use Rattle.volume_spec.specs.NodeValues.{has_open_fork}
use Rattle.volume_keeper.proofs.replies.file.is_open.Goals as goal
use Rattle.afp_base.proofs.ListFacts.{any-map}

pub returns : goal.returns
unfolding has_open_fork
returns c =
    c.has_fork.ensures
    ∙ sym (any-map (λ (open_fork : Opened). (open_fork.node == c.args.id.0) && (if c.args.resource then open_fork.resource else not open_fork.resource)) (λ (open_fork : NodeId × Bool). record { node = open_fork.0.0; resource = open_fork.1 }) c.args.opens.now)
