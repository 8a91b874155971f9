use Rattle.std.proofs.Common.{◌∙◌, sym, refl, ◌∷◌, []}
use Rattle.volume_spec.specs.VolumeCalls as call
use Rattle.volume_edits.proofs.OfPlans.Calls.{Passes, passes-call, plans-one}
use Rattle.volume_edits.proofs.OfPlans.Passing.{remove-appl-edits, remove-appl-passes}
use Rattle.volume_spec.specs.Edit as edit
use Rattle.volume_edits.proofs.plans.remove_appl.plan_remove_appl.Goals as goal

pub returns-clause-refused : goal.returns-clause-refused
returns-clause-refused c = passes-call c.args.now (c.takes_appl.result ∷ []) c.plan_one.result _ (remove-appl-passes c.args.whole.now.state c.args.user c.args.now c.args.dir.0 c.args.path.now c.in-Ok.id.0 c.in-Ok.ensures c.args.creator (sym c.is_file.ensures ∙ c.if-not-is_file.false) (sym c.lacks_above.ensures ∙ c.if-lacks_above.false) (sym c.has_no_appl.ensures ∙ c.if-has_no_appl.false)) c.plan_one.ensures

pub returns-clause-plan : goal.returns-clause-plan
returns-clause-plan c =
    let none = remove-appl-passes c.args.whole.now.state c.args.user c.args.now c.args.dir.0 c.args.path.now c.in-Ok.id.0 c.in-Ok.ensures c.args.creator (sym c.is_file.ensures ∙ c.if-not-is_file.false) (sym c.lacks_above.ensures ∙ c.if-lacks_above.false) (sym c.has_no_appl.ensures ∙ c.if-has_no_appl.false) in
    let p : Passes c.args.whole.now.state c.args.user c.args.now (call.RemoveAPPL c.args.dir.0 c.args.creator c.args.path.now) = record {
      holds = c.laws_hold.ensures;
      formed_call = refl;
      typed_call = refl;
      passes = none;
    } in
    plans-one c.args.whole.now.state c.args.user c.args.now (call.RemoveAPPL c.args.dir.0 c.args.creator c.args.path.now) c.takes_appl.result (edit.TakesAppl c.args.creator c.in-Ok.id.0) c.plan_one.result p c.takes_appl.ensures tt (remove-appl-edits c.args.whole.now.state c.args.user c.args.now c.args.dir.0 c.args.path.now c.in-Ok.id.0 c.in-Ok.ensures c.args.creator) c.plan_one.ensures
