use Rattle.std.proofs.Common.{subst, List, ℕ}
use Rattle.std.specs.Prelude.{IfOk}
use Rattle.volume_edits.specs.plans.Plans.{Plans}
use Rattle.afp_core_state.specs.OnVolumes.{IsOpen}
use Rattle.volume_spec.specs.VolumeCalls.{AddComment}
use Rattle.afp_core_calls.proofs.OfDesktop.CallRows.{add_comment-changes}
use Rattle.afp_core_state.proofs.PlannedRows.{plan-runs, plans-commit, volume-unopened}
use Rattle.afp_core_calls.proofs.desktop.comments.add_comment.Goals as goal

pub run_plan-requires-clause-may : goal.run_plan-requires-clause-may
run_plan-requires-clause-may g c =
    plans-commit c.args.state.now c.in-Some.index c.user.result c.whole_at-volume.result.now.state c.latest.result (AddComment c.args.dir.0 c.args.path.now c.in_ok-text.text) c.plan_add_comment-answer.result c.whole_at-volume.ensures c.plan_add_comment-answer.ensures.plan

pub returns-in_default : goal.returns-in_default
returns-in_default g c =
    volume-unopened c.args.state.now c.args.session.0 _ c.args.dt _ _ (add_comment-changes c.args.dt c.args.dir c.args.path.now c.args.comment.now) _
    (subst (IsOpen c.args.state.now c.args.session.0 c.args.dt) c.in_default.is c.opened.ensures) c.refused.ensures

pub returns : goal.returns
returns g c =
    let answer = c.plan_add_comment-answer in
    plan-runs c.args.state.now c.args.session.0 _ c.args.dt _ _ (add_comment-changes c.args.dt c.args.dir c.args.path.now c.args.comment.now) c.run_plan.new.state c.user.result c.in-Some.index c.whole_at-volume.result.now.state c.latest.result answer.result c.new-nothing.result c.run_plan.result
    c.user.ensures c.in-Some.ensures c.whole_at-volume.ensures c.latest.ensures answer.ensures.refused
    (subst (λ (t : List ℕ). IfOk answer.result (Plans c.whole_at-volume.result.now.state c.user.result c.latest.result (AddComment c.args.dir.0 c.args.path.now t))) c.in_ok-text.ensures answer.ensures.plan) (λ passes. c.new-nothing.ensures) c.run_plan.ensures
