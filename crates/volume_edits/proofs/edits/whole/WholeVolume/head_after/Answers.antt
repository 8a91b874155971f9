use Rattle.std.proofs.Common.{◌∙◌, ap}
use Rattle.volume_edits.specs.edits.Planned.{edits_of}
use Rattle.volume_edits.specs.edits.Whole.{VolumeValue}
use Rattle.volume_edits.proofs.OfEdits.HeadAndComments.{created-of-call}
use Rattle.volume_edits.proofs.edits.whole.WholeVolume.head_after.Goals as goal

pub returns-clause-created : goal.returns-clause-created
returns-clause-created c =
    c.head-head.ensures.created ∙ ap (λ (v : VolumeValue). v.state.created) c.self.view_is
    ∙ created-of-call c.args.self.now.state c.args.plan.now.moment (edits_of c.args.plan.now.edits)
