use Rattle.std.proofs.Common.{ap}
use Rattle.volume_spec.specs.DesktopLaws.{with_desktop}
use Rattle.volume_spec.specs.Edit.{edited}
use Rattle.volume_spec.specs.VolumeState.{VolumeState}
use Rattle.volume_edits.proofs.edits.kinds.files.Goals as goal

pub returns-clause-state : goal.returns-clause-state
unfolding edited
returns-clause-state c = ap (λ (v : VolumeState). with_desktop v c.args.desktop.now.comments c.args.desktop.now.icons c.args.desktop.now.appls) c.file_node.ensures.state
