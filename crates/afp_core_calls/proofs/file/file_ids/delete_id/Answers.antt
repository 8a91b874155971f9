use Rattle.std.proofs.Common.{subst}
use Rattle.afp_core_state.specs.OnVolumes.{IsOpen}
use Rattle.volume_spec.specs.VolumeCalls.{DeleteID}
use Rattle.afp_core_calls.proofs.OfFile.FileRows.{delete_id-changes}
use Rattle.afp_core_state.proofs.PlannedRows.{plan-runs, plans-commit, volume-unopened}
use Rattle.afp_core_calls.proofs.file.file_ids.delete_id.Goals as goal

pub run_plan-requires-clause-may : goal.run_plan-requires-clause-may
run_plan-requires-clause-may g c =
    plans-commit c.args.state.now c.in-Some.index c.user.result c.whole_at-whole.result.now.state c.latest.result (DeleteID c.args.id.0) c.plan_delete_id-answer.result c.whole_at-whole.ensures c.plan_delete_id-answer.ensures.plan

pub returns-in_default : goal.returns-in_default
returns-in_default g c =
    volume-unopened c.args.state.now c.args.session.0 _ c.args.volume.0 _ _ (delete_id-changes c.args.volume c.args.id) _
    (subst (IsOpen c.args.state.now c.args.session.0 c.args.volume.0) c.in_default.is c.opened.ensures) c.refused.ensures

pub returns : goal.returns
returns g c =
    let answer = c.plan_delete_id-answer in
    plan-runs c.args.state.now c.args.session.0 _ c.args.volume.0 _ _ (delete_id-changes c.args.volume c.args.id) c.run_plan.new.state c.user.result c.in-Some.index c.whole_at-whole.result.now.state c.latest.result answer.result c.new-nothing.result c.run_plan.result
    c.user.ensures c.in-Some.ensures c.whole_at-whole.ensures c.latest.ensures answer.ensures.refused answer.ensures.plan (λ passes. c.new-nothing.ensures) c.run_plan.ensures
