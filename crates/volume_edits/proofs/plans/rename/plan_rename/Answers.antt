use Rattle.std.proofs.Common.{◌∙◌, ℕ, List, [], ◌∷◌, ap, refl}
use Rattle.volume_spec.specs.Edit as edit
use Rattle.volume_spec.specs.VolumeCalls as call
use Rattle.volume_edits.specs.edits.Planned.{plain}
use Rattle.volume_edits.proofs.OfPlans.Calls.{plans-plain}
use Rattle.volume_edits.proofs.OfPlans.TreeEdits.{rename-edits}
use Rattle.volume_edits.proofs.plans.rename.plan_rename.Goals as goal

pub returns-clause-plan : goal.returns-clause-plan
returns-clause-plan c =
    let renames = c.renames.ensures ∙ ap (λ (n : List ℕ). plain (edit.Renames c.in-Ok.at.0.0 n)) c.in-Ok-of.ensures in
    plans-plain c.args.whole.now.state c.args.user [] c.args.now (call.Rename c.args.dir.0 c.args.path.now c.args.new.now) (c.renames.result ∷ c.dated.result ∷ []) (edit.Renames c.in-Ok.at.0.0 c.in-Ok.at.1.now ∷ edit.dated c.args.now c.directory-up.result.0 ∷ []) c.plan_two.result
    c.laws_hold.ensures c.steps_are_named.ensures refl c.in-Ok.ensures.refused (λ i. renames i ∷ c.dated.ensures i ∷ []) (tt, (tt, tt))
    (rename-edits c.args.whole.now.state c.args.user c.args.now c.args.dir.0 c.args.path.now c.in-Ok.at.0.0 c.in-Ok.ensures.found c.args.new.now c.in-Ok.at.1.now c.directory-up.result.0 c.in-Ok.ensures.name c.directory-up.ensures) c.plan_two.ensures
