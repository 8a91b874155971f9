use Rattle.std.proofs.Common.{◌∙◌, ℤ, [], ◌∷◌, ap, refl, rules}
use Rattle.std.specs.Int.{w32}
use Rattle.std.proofs.lemmas.Int.{to_z-of_z}
use Rattle.volume_spec.specs.Edit as edit
use Rattle.volume_spec.specs.VolumeCalls as call
use Rattle.volume_edits.specs.edits.Planned.{plain}
use Rattle.volume_edits.proofs.OfPlans.Calls.{plans-plain}
use Rattle.volume_edits.proofs.OfPlans.TreeEdits.{backup-edits}
use Rattle.volume_edits.proofs.plans.set_vol_parms.plan_set_vol_parms.Goals as goal

pub returns-clause-plan : goal.returns-clause-plan
returns-clause-plan c =
    let backs_up = c.backs_up.ensures ∙ ap (λ (date : ℤ). plain (edit.BacksUp date)) (to_z-of_z w32 c.in-Ok.date (search rules)) in
    plans-plain c.args.whole.now.state c.args.user [] c.args.now (call.SetVolParms c.args.bits c.args.tail.now) (c.backs_up.result ∷ []) (edit.BacksUp c.in-Ok.date ∷ []) c.plan_one.result c.laws_hold.ensures refl c.bytes_in_range.ensures c.in-Ok.ensures.refused
    (λ i. backs_up i ∷ []) (tt, tt) (backup-edits c.args.whole.now.state c.args.user c.args.now c.args.bits c.args.tail.now c.in-Ok.date c.in-Ok.ensures.date) c.plan_one.ensures
