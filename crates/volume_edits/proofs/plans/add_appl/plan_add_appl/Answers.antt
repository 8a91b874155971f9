use Rattle.std.proofs.Common.{◌∙◌, eq-eqb, length, sym, ◌∷◌, []}
use Rattle.volume_spec.specs.VolumeCalls as call
use Rattle.volume_edits.proofs.OfPlans.Calls.{Passes, passes-call, plans-one}
use Rattle.volume_edits.proofs.OfPlans.Passing.{add-appl-edits, add-appl-passes}
use Rattle.volume_spec.specs.Edit as edit
use Rattle.std.proofs.lemmas.Bool.{and_from}
use Rattle.volume_spec.specs.TypedVolume.{are_bytes, is_long}
use Rattle.volume_edits.proofs.plans.add_appl.plan_add_appl.Goals as goal

pub returns-clause-refused : goal.returns-clause-refused
returns-clause-refused c = passes-call c.args.now (c.puts_appl.result ∷ []) c.plan_one.result _ (add-appl-passes c.args.whole.now.state c.args.user c.args.now c.args.dir.0 c.args.path.now c.in-Ok.id.0 c.in-Ok.ensures c.args.creator (sym c.is_file.ensures ∙ c.if-not-is_file.false) (sym c.lacks_above.ensures ∙ c.if-lacks_above.false) (sym c.has_no_appl_room.ensures ∙ c.if-has_no_appl_room.false)) c.plan_one.ensures

pub returns-clause-plan : goal.returns-clause-plan
returns-clause-plan c =
    let none = add-appl-passes c.args.whole.now.state c.args.user c.args.now c.args.dir.0 c.args.path.now c.in-Ok.id.0 c.in-Ok.ensures c.args.creator (sym c.is_file.ensures ∙ c.if-not-is_file.false) (sym c.lacks_above.ensures ∙ c.if-lacks_above.false) (sym c.has_no_appl_room.ensures ∙ c.if-has_no_appl_room.false) in
    let p : Passes c.args.whole.now.state c.args.user c.args.now (call.AddAPPL c.args.dir.0 c.args.creator c.args.tag c.args.path.now) = record {
      holds = c.laws_hold.ensures;
      formed_call = eq-eqb (length c.args.creator) 4 c.creator_in_range.ensures.size;
      typed_call = and_from (are_bytes c.args.creator) (is_long c.args.tag) c.creator_in_range.ensures.bytes c.creator_in_range.ensures.tag;
      passes = none;
    } in
    plans-one c.args.whole.now.state c.args.user c.args.now (call.AddAPPL c.args.dir.0 c.args.creator c.args.tag c.args.path.now) c.puts_appl.result (edit.PutsAppl (record { creator = c.args.creator; node = c.in-Ok.id.0; tag = c.args.tag })) c.plan_one.result p c.puts_appl.ensures tt (add-appl-edits c.args.whole.now.state c.args.user c.args.now c.args.dir.0 c.args.path.now c.in-Ok.id.0 c.in-Ok.ensures c.args.creator c.args.tag) c.plan_one.ensures
