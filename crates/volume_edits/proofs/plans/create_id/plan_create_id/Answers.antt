use Rattle.std.proofs.Common.{◌∙◌, sym, refl, ◌∷◌, [], true}
use Rattle.volume_spec.specs.VolumeCalls as call
use Rattle.volume_edits.proofs.OfPlans.Calls.{Passes, passes-call, plans-one}
use Rattle.volume_edits.proofs.OfPlans.Passing.{create-id-edits, create-id-passes}
use Rattle.volume_spec.specs.Edit as edit
use Rattle.volume_edits.proofs.plans.create_id.plan_create_id.Goals as goal

pub returns-clause-refused : goal.returns-clause-refused
returns-clause-refused c = passes-call c.args.now (c.files.result ∷ []) c.plan_one.result _ (create-id-passes c.args.whole.now.state c.args.user c.args.now c.args.dir.0 c.args.path.now c.in-Ok.id.0 c.in-Ok.ensures (sym c.is_file.ensures ∙ c.if-not-is_file.false) (sym c.lacks_above.ensures ∙ c.if-lacks_above.false) (sym c.is_filed.ensures ∙ c.if-is_filed.false)) c.plan_one.ensures

pub returns-clause-plan : goal.returns-clause-plan
returns-clause-plan c =
    let none = create-id-passes c.args.whole.now.state c.args.user c.args.now c.args.dir.0 c.args.path.now c.in-Ok.id.0 c.in-Ok.ensures (sym c.is_file.ensures ∙ c.if-not-is_file.false) (sym c.lacks_above.ensures ∙ c.if-lacks_above.false) (sym c.is_filed.ensures ∙ c.if-is_filed.false) in
    let p : Passes c.args.whole.now.state c.args.user c.args.now (call.CreateID c.args.dir.0 c.args.path.now) = record {
      holds = c.laws_hold.ensures;
      formed_call = refl;
      typed_call = refl;
      passes = none;
    } in
    plans-one c.args.whole.now.state c.args.user c.args.now (call.CreateID c.args.dir.0 c.args.path.now) c.files.result (edit.Files c.in-Ok.id.0 true) c.plan_one.result p c.files.ensures tt (create-id-edits c.args.whole.now.state c.args.user c.args.now c.args.dir.0 c.args.path.now c.in-Ok.id.0 c.in-Ok.ensures) c.plan_one.ensures
