use Rattle.volume_spec.specs.DesktopLaws.{with_desktop}
use Rattle.volume_spec.specs.Edit.{edited}
use Rattle.volume_edits.proofs.OfEdits.Seen.{go-seen}
use Rattle.volume_edits.proofs.edits.kinds.goes.Goals as goal

pub remove_node-requires : goal.remove_node-requires
remove_node-requires c = go-seen c.args.tree.now.state c.args.desktop.now.comments c.args.desktop.now.icons c.args.desktop.now.appls c.args.id.0 c.requires

pub returns-clause-state : goal.returns-clause-state
unfolding edited
returns-clause-state c = λ i. with_desktop (c.remove_node.ensures.state i) (c.forget.ensures.comments i) (c.forget.ensures.icons i) (c.forget.ensures.appls i)
