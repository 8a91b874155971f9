use Rattle.std.proofs.Common.{◌∙◌, rules, sym, refl, ◌∷◌, [], false}
use Rattle.volume_spec.specs.VolumeCalls as call
use Rattle.volume_edits.proofs.OfPlans.Calls.{Passes, passes-call, plans-one}
use Rattle.volume_edits.proofs.OfPlans.Passing.{delete-id-edits, delete-id-passes}
use Rattle.volume_spec.specs.Edit as edit
use Rattle.volume_edits.proofs.plans.delete_id.plan_delete_id.Goals as goal

pub returns-clause-refused : goal.returns-clause-refused
returns-clause-refused c = passes-call c.args.now (c.files.result ∷ []) c.plan_one.result _ (delete-id-passes c.args.whole.now.state c.args.user c.args.id.0 (search (rules, c.if-id-lt-FIRST_ID.false)) (sym c.is_filed.ensures ∙ c.if-not-is_filed.false) (sym c.lacks_above.ensures ∙ c.if-lacks_above.false)) c.plan_one.ensures

pub returns-clause-plan : goal.returns-clause-plan
returns-clause-plan c =
    let none = delete-id-passes c.args.whole.now.state c.args.user c.args.id.0 (search (rules, c.if-id-lt-FIRST_ID.false)) (sym c.is_filed.ensures ∙ c.if-not-is_filed.false) (sym c.lacks_above.ensures ∙ c.if-lacks_above.false) in
    let p : Passes c.args.whole.now.state c.args.user c.args.now (call.DeleteID c.args.id.0) = record {
      holds = c.laws_hold.ensures;
      formed_call = refl;
      typed_call = refl;
      passes = none;
    } in
    plans-one c.args.whole.now.state c.args.user c.args.now (call.DeleteID c.args.id.0) c.files.result (edit.Files c.args.id.0 false) c.plan_one.result p c.files.ensures tt (delete-id-edits c.args.whole.now.state c.args.user c.args.now c.args.id.0) c.plan_one.ensures
