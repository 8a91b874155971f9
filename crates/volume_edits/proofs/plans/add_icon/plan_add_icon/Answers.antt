use Rattle.std.proofs.Common.{◌∙◌, ap, sym, ◌∷◌, []}
use Rattle.volume_spec.specs.VolumeCalls as call
use Rattle.volume_edits.proofs.OfPlans.Calls.{Passes, passes-call, plans-one}
use Rattle.volume_edits.proofs.OfPlans.Passing.{add-icon-edits, add-icon-passes}
use Rattle.volume_spec.specs.Edit as edit
use Rattle.volume_spec.specs.Desktop.{has_no_icon_room, icon_under}
use Rattle.volume_edits.proofs.plans.add_icon.plan_add_icon.Goals as goal

pub returns-clause-refused : goal.returns-clause-refused
returns-clause-refused c = passes-call c.args.now (c.puts_icon.result ∷ []) c.plan_one.result _ (add-icon-passes c.args.whole.now.state (icon_under c.args.key c.args.tag c.args.bits) (ap (λ key. has_no_icon_room key c.args.whole.now.state.icons) c.icon_in_range.ensures.key ∙ sym c.has_no_icon_room.ensures ∙ c.if-has_no_icon_room.false)) c.plan_one.ensures

pub returns-clause-plan : goal.returns-clause-plan
returns-clause-plan c =
    let none = add-icon-passes c.args.whole.now.state (icon_under c.args.key c.args.tag c.args.bits) (ap (λ key. has_no_icon_room key c.args.whole.now.state.icons) c.icon_in_range.ensures.key ∙ sym c.has_no_icon_room.ensures ∙ c.if-has_no_icon_room.false) in
    let p : Passes c.args.whole.now.state c.args.user c.args.now (call.AddIcon (icon_under c.args.key c.args.tag c.args.bits)) = record {
      holds = c.laws_hold.ensures;
      formed_call = c.icon_in_range.ensures.formed;
      typed_call = c.icon_in_range.ensures.typed;
      passes = none;
    } in
    plans-one c.args.whole.now.state c.args.user c.args.now (call.AddIcon (icon_under c.args.key c.args.tag c.args.bits)) c.puts_icon.result (edit.PutsIcon (icon_under c.args.key c.args.tag c.args.bits)) c.plan_one.result p c.puts_icon.ensures tt (add-icon-edits c.args.whole.now.state c.args.user c.args.now (icon_under c.args.key c.args.tag c.args.bits)) c.plan_one.ensures
