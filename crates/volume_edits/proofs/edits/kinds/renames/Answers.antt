use Rattle.std.proofs.Common.{ap}
use Rattle.volume_spec.specs.DesktopLaws.{with_desktop}
use Rattle.volume_spec.specs.Edit.{edited}
use Rattle.volume_spec.specs.VolumeState.{VolumeState}
use Rattle.volume_edits.proofs.OfEdits.Seen.{rename-seen}
use Rattle.volume_edits.proofs.edits.kinds.renames.Goals as goal

pub rename_node-requires : goal.rename_node-requires
rename_node-requires c = rename-seen c.args.tree.now.state c.args.desktop.now.comments c.args.desktop.now.icons c.args.desktop.now.appls c.args.id.0 c.args.name c.requires

pub returns-clause-state : goal.returns-clause-state
unfolding edited
returns-clause-state c = ap (λ (v : VolumeState). with_desktop v c.args.desktop.now.comments c.args.desktop.now.icons c.args.desktop.now.appls) c.rename_node.ensures.state
