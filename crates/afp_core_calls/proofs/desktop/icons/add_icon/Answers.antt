use Rattle.std.proofs.Common.{subst}
use Rattle.std.specs.Prelude.{IfOk}
use Rattle.afp_core_state.specs.OnVolumes.{IsOpen}
use Rattle.volume_edits.specs.plans.Plans.{Plans}
use Rattle.volume_spec.specs.Desktop.{icon_under}
use Rattle.volume_spec.specs.Icons.{add_icon_refusal}
use Rattle.volume_spec.specs.VolumeCalls.{AddIcon}
use Rattle.volume_spec.specs.VolumeState.{Icon}
use Rattle.volume_tree.specs.Answered.{Refuses}
use Rattle.afp_core_calls.proofs.OfDesktop.CallRows.{add_icon-changes}
use Rattle.afp_core_calls.proofs.OfDesktop.DeskLemmas.{icon-asked}
use Rattle.afp_core_state.proofs.PlannedRows.{plan-runs, plans-commit, volume-unopened}
use Rattle.afp_core_calls.proofs.desktop.icons.add_icon.Goals as goal

pub run_plan-requires-clause-may : goal.run_plan-requires-clause-may
run_plan-requires-clause-may g c =
    plans-commit c.args.state.now c.in-Some.index c.user.result c.whole_at-volume.result.now.state c.latest.result (AddIcon (icon_under c.icon_key-key.result c.args.tag c.in_ok-bits.bits)) c.plan_add_icon-answer.result c.whole_at-volume.ensures c.plan_add_icon-answer.ensures.plan

pub returns-in_default : goal.returns-in_default
returns-in_default g c = λ size.
    volume-unopened c.args.state.now c.args.session.0 _ c.args.dt _ _ (add_icon-changes c.args.dt c.args.creator c.args.kind c.args.icon_kind c.args.tag size c.args.piece.now) _
    (subst (IsOpen c.args.state.now c.args.session.0 c.args.dt) c.in_default.is c.opened.ensures) c.refused.ensures

pub returns : goal.returns
returns g c = λ size.
    let answer = c.plan_add_icon-answer in
    let v = c.whole_at-volume.result.now.state in
    let asked = icon-asked c.args.creator c.args.kind c.icon_key-key.result c.in_ok-bits.bits c.args.piece.now c.args.icon_kind c.args.tag c.four_bytes.ensures c.four_bytes-2.ensures c.icon_key-key.ensures c.in_ok-bits.ensures c.icons_have_their_keys.ensures.parts in
    plan-runs c.args.state.now c.args.session.0 _ c.args.dt _ _ (add_icon-changes c.args.dt c.args.creator c.args.kind c.args.icon_kind c.args.tag size c.args.piece.now) c.run_plan.new.state c.user.result c.in-Some.index v c.latest.result answer.result c.new-nothing.result c.run_plan.result
    c.user.ensures c.in-Some.ensures c.whole_at-volume.ensures c.latest.ensures (subst (λ (x : Icon). Refuses answer.result (add_icon_refusal v x)) asked answer.ensures.refused)
    (subst (λ (x : Icon). IfOk answer.result (Plans v c.user.result c.latest.result (AddIcon x))) asked answer.ensures.plan) (λ passes. c.new-nothing.ensures) c.run_plan.ensures
