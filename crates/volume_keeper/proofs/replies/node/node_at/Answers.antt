use Rattle.std.proofs.Common.{◌∙◌, ap, sym}
use Rattle.std.specs.Option.{option_copied}
use Rattle.volume_tree.proofs.KeptForks.{row-of}
use Rattle.volume_keeper.proofs.replies.node.node_at.Goals as goal
use Rattle.volume_tree.proofs.Placing.{never-missing}

pub unreachable-requires : goal.unreachable-requires
unreachable-requires c = never-missing c.args.volume.now.state.rows c.args.id.0 c.requires (ap option_copied (sym c.in-None.is) ∙ c.node.ensures)

pub returns : goal.returns
returns c row found = row-of c.args.volume.now.state.rows c.args.id.0 c.in-Some.node.now row (ap option_copied (sym c.in-Some.is) ∙ c.node.ensures) found
