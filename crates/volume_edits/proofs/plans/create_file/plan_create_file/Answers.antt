use Rattle.std.proofs.Common.{◌∙◌, [], ◌∷◌, ap, refl, false}
use Rattle.volume_spec.specs.Edit as edit
use Rattle.volume_spec.specs.VolumeCalls as call
use Rattle.volume_spec.specs.VolumeState.{Row, new_row}
use Rattle.volume_tree.specs.Shown.{opened}
use Rattle.volume_tree.specs.lemma.Answered.{option_id}
use Rattle.volume_edits.specs.edits.Planned.{plain}
use Rattle.volume_edits.proofs.OfPlans.Calls.{plans-plain}
use Rattle.volume_edits.proofs.OfPlans.TreeEdits.{hard-file-edits, new-file-edits}
use Rattle.volume_edits.proofs.plans.create_file.plan_create_file.Goals as goal

pub returns-in-None-clause-plan : goal.returns-in-None-clause-plan
returns-in-None-clause-plan c =
    let comes = c.comes-in-None.ensures ∙ ap (λ (row : Row). plain (edit.Comes row)) c.in-Ok-new_with_forks.ensures in
    plans-plain c.args.whole.now.state c.args.user (opened c.args.opens.now) c.args.now (call.CreateFile c.args.hard c.args.dir.0 c.args.path.now) (c.comes-in-None.result ∷ c.dated-in-None.result ∷ [])
    (edit.Comes (new_row false c.args.user c.in-Ok.at.0.0 c.in-Ok.at.1.0 c.in-Ok.at.2.now c.args.now) ∷ edit.dated c.args.now c.in-Ok.at.1.0 ∷ []) c.plan_two.result
    c.laws_hold.ensures c.steps_are_named.ensures refl c.in-Ok.ensures.refused (λ i. comes i ∷ c.dated-in-None.ensures i ∷ []) (tt, (tt, tt))
    (new-file-edits c.args.whole.now.state c.args.user c.args.now c.args.dir.0 c.args.path.now c.in-Ok.at.0.0 c.in-Ok.at.1.0 c.in-Ok.at.2.now c.in-Ok.ensures.place c.in-Ok.ensures.id c.args.hard (c.in-Ok.ensures.old ∙ ap option_id c.in-None.is)) c.plan_two.ensures

pub returns-in-Some-clause-plan : goal.returns-in-Some-clause-plan
returns-in-Some-clause-plan c =
    let comes = c.comes.ensures ∙ ap (λ (row : Row). plain (edit.Comes row)) c.in-Ok-new_with_forks.ensures in
    plans-plain c.args.whole.now.state c.args.user (opened c.args.opens.now) c.args.now (call.CreateFile c.args.hard c.args.dir.0 c.args.path.now) (c.goes.result ∷ c.comes.result ∷ c.dated.result ∷ [])
    (edit.Goes c.in-Some.old.0 ∷ edit.Comes (new_row false c.args.user c.in-Ok.at.0.0 c.in-Ok.at.1.0 c.in-Ok.at.2.now c.args.now) ∷ edit.dated c.args.now c.in-Ok.at.1.0 ∷ []) c.plan_three.result
    c.laws_hold.ensures c.steps_are_named.ensures refl c.in-Ok.ensures.refused (λ i. c.goes.ensures i ∷ comes i ∷ c.dated.ensures i ∷ []) (tt, (tt, (tt, tt)))
    (hard-file-edits c.args.whole.now.state c.args.user c.args.now c.args.dir.0 c.args.path.now c.in-Ok.at.0.0 c.in-Ok.at.1.0 c.in-Ok.at.2.now c.in-Ok.ensures.place c.in-Ok.ensures.id c.args.hard c.in-Some.old.0 (c.in-Ok.ensures.old ∙ ap option_id c.in-Some.is)) c.plan_three.ensures
