use Rattle.std.proofs.Common.{[], ◌∷◌, refl}
use Rattle.volume_spec.specs.Edit as edit
use Rattle.volume_spec.specs.VolumeCalls as call
use Rattle.volume_tree.specs.Shown.{opened}
use Rattle.volume_edits.proofs.OfPlans.Calls.{plans-plain}
use Rattle.volume_edits.proofs.OfPlans.TreeEdits.{delete-edits}
use Rattle.volume_edits.proofs.plans.delete.plan_delete.Goals as goal

pub returns-clause-plan : goal.returns-clause-plan
returns-clause-plan c =
    plans-plain c.args.whole.now.state c.args.user (opened c.args.opens.now) c.args.now (call.Delete c.args.dir.0 c.args.path.now) (c.goes.result ∷ c.dated.result ∷ []) (edit.Goes c.in-Ok.id.0 ∷ edit.dated c.args.now c.directory-up.result.0 ∷ []) c.plan_two.result
    c.laws_hold.ensures refl refl c.in-Ok.ensures.refused (λ i. c.goes.ensures i ∷ c.dated.ensures i ∷ []) (tt, (tt, tt))
    (delete-edits c.args.whole.now.state c.args.user c.args.now c.args.dir.0 c.args.path.now c.in-Ok.id.0 c.in-Ok.ensures.found c.directory-up.result.0 c.directory-up.ensures) c.plan_two.ensures
