use Rattle.std.proofs.Common.{ap}
use Rattle.volume_spec.specs.DesktopLaws.{with_desktop}
use Rattle.volume_spec.specs.Edit.{edited}
use Rattle.volume_spec.specs.VolumeState.{VolumeState}
use Rattle.volume_edits.proofs.OfEdits.Seen.{write-seen}
use Rattle.volume_edits.proofs.edits.kinds.writes.Goals as goal

pub write_fork-requires-clause-may : goal.write_fork-requires-clause-may
write_fork-requires-clause-may c = write-seen c.args.tree.now.state c.args.desktop.now.comments c.args.desktop.now.icons c.args.desktop.now.appls c.args.write.id.0 c.args.write.resource c.args.write.write.after c.requires.may

pub returns-clause-state : goal.returns-clause-state
unfolding edited
returns-clause-state c = ap (λ (v : VolumeState). with_desktop v c.args.desktop.now.comments c.args.desktop.now.icons c.args.desktop.now.appls) c.write_fork.ensures.state
