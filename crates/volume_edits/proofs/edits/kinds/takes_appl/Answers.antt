use Rattle.volume_spec.specs.DesktopLaws.{with_desktop}
use Rattle.volume_spec.specs.Edit.{edited}
use Rattle.volume_edits.proofs.edits.kinds.takes_appl.Goals as goal

pub returns-clause-state : goal.returns-clause-state
unfolding edited
returns-clause-state c = λ i. with_desktop c.args.tree.now.state (c.take_appl-taken.ensures.comments i) (c.take_appl-taken.ensures.icons i) (c.take_appl-taken.ensures.appls i)
