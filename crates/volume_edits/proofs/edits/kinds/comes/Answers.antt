use Rattle.std.proofs.Common.{ap}
use Rattle.volume_spec.specs.DesktopLaws.{with_desktop}
use Rattle.volume_spec.specs.Edit.{edited}
use Rattle.volume_spec.specs.VolumeState.{VolumeState}
use Rattle.volume_edits.proofs.OfEdits.Seen.{come-seen}
use Rattle.volume_edits.proofs.edits.kinds.comes.Goals as goal

pub insert_node-requires-clause-may : goal.insert_node-requires-clause-may
insert_node-requires-clause-may c = come-seen c.args.tree.now.state c.args.desktop.now.comments c.args.desktop.now.icons c.args.desktop.now.appls c.args.new c.requires.may

pub returns : goal.returns
unfolding edited
returns c = ap (λ (v : VolumeState). with_desktop v c.args.desktop.now.comments c.args.desktop.now.icons c.args.desktop.now.appls) c.insert_node.ensures
