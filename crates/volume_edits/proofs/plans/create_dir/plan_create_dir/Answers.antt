use Rattle.std.proofs.Common.{◌∙◌, [], ◌∷◌, ap, refl, true}
use Rattle.volume_spec.specs.Edit as edit
use Rattle.volume_spec.specs.VolumeCalls as call
use Rattle.volume_spec.specs.VolumeState.{Row, new_row}
use Rattle.volume_edits.specs.edits.Planned.{plain}
use Rattle.volume_edits.proofs.OfPlans.Calls.{plans-plain}
use Rattle.volume_edits.proofs.OfPlans.TreeEdits.{create-dir-edits}
use Rattle.volume_edits.proofs.plans.create_dir.plan_create_dir.Goals as goal

pub returns-clause-plan : goal.returns-clause-plan
returns-clause-plan c =
    let comes = c.comes.ensures ∙ ap (λ (row : Row). plain (edit.Comes row)) c.in-Ok-new_with_forks.ensures in
    plans-plain c.args.whole.now.state c.args.user [] c.args.now (call.CreateDir c.args.dir.0 c.args.path.now) (c.comes.result ∷ c.dated.result ∷ []) (edit.Comes (new_row true c.args.user c.in-Ok.at.0.0 c.in-Ok.at.1.0 c.in-Ok.at.2.now c.args.now) ∷ edit.dated c.args.now c.in-Ok.at.1.0 ∷ []) c.plan_two.result
    c.laws_hold.ensures c.steps_are_named.ensures refl c.in-Ok.ensures.refused (λ i. comes i ∷ c.dated.ensures i ∷ []) (tt, (tt, tt))
    (create-dir-edits c.args.whole.now.state c.args.user c.args.now c.args.dir.0 c.args.path.now c.in-Ok.at.0.0 c.in-Ok.at.1.0 c.in-Ok.at.2.now c.in-Ok.ensures.place c.in-Ok.ensures.id) c.plan_two.ensures
