use Rattle.std.proofs.Common.{◌≡◌, refl, subst, ℕ, None}
use Rattle.std.specs.Prelude.{IfOk, Result, Ok}
use Rattle.afp_core_state.specs.OnVolumes.{IsOpen}
use Rattle.afp_core_state.proofs.PlannedRows.{plans-commit}
use Rattle.volume_edits.specs.edits.Planned.{PlanValue}
use Rattle.volume_edits.specs.plans.Plans.{Plans}
use Rattle.volume_spec.specs.ExchangeFiles.{exchange_files_refusal}
use Rattle.volume_spec.specs.VolumeCalls.{ExchangeFiles}
use Rattle.volume_tree.specs.Answered.{Refuses}
use Rattle.volume_tree.specs.declared.resolve.PlanFault.{PlanFault}
use Rattle.afp_core_calls.proofs.OfFile.ExchangeRows.{exchange-runs, exchange-told, exchange-unopened}
use Rattle.afp_core_calls.proofs.OfFile.FileRows.{exchange_files-row}
use Rattle.afp_core_calls.proofs.file.exchange_files.exchange_files.Goals as goal

pub returns-in_default : goal.returns-in_default
returns-in_default g c =
    exchange-unopened c.args.state.now c.args.session.0 _ c.args.volume.0 c.args.dir.0 c.args.second_dir.0 c.args.path.now c.args.second_path.now (exchange_files-row c.args.volume c.args.dir c.args.second_dir c.args.path.now c.args.second_path.now) refl _
    (subst (IsOpen c.args.state.now c.args.session.0 c.args.volume.0) c.in_default.is c.opened.ensures) c.refused.ensures

pub pair_of-requires : goal.pair_of-requires
pair_of-requires g c =
    subst (λ (r : Result PlanValue PlanFault). Refuses r (exchange_files_refusal c.whole_at-whole.result.now.state c.user-user.result c.args.dir.0 c.args.path.now c.args.second_dir.0 c.args.second_path.now)) c.in-Ok.is c.plan_exchange_files-answer.ensures.refused

pub exchange-requires-clause-may : goal.exchange-requires-clause-may
exchange-requires-clause-may g c =
    plans-commit c.args.state.now c.in-Some.index c.user-user.result c.whole_at-whole.result.now.state c.latest.result (ExchangeFiles c.args.dir.0 c.args.path.now c.args.second_dir.0 c.args.second_path.now) (Ok c.in-Ok.plan) c.whole_at-whole.ensures
    (subst (λ (r : Result PlanValue PlanFault). IfOk r (Plans c.whole_at-whole.result.now.state c.user-user.result c.latest.result (ExchangeFiles c.args.dir.0 c.args.path.now c.args.second_dir.0 c.args.second_path.now))) c.in-Ok.is c.plan_exchange_files-answer.ensures.plan)

pub returns-in_ok-pair-in-Ok : goal.returns-in_ok-pair-in-Ok
returns-in_ok-pair-in-Ok g c =
    let x = c.args in
    let v = c.whole_at-whole.result.now.state in
    let passes : exchange_files_refusal v c.user-user.result x.dir.0 x.path.now x.second_dir.0 x.second_path.now ≡ None =
    subst (λ (r : Result PlanValue PlanFault). Refuses r (exchange_files_refusal v c.user-user.result x.dir.0 x.path.now x.second_dir.0 x.second_path.now)) c.in-Ok.is c.plan_exchange_files-answer.ensures.refused in
    let plans : Plans v c.user-user.result x.state.now.world.latest (ExchangeFiles x.dir.0 x.path.now x.second_dir.0 x.second_path.now) c.in-Ok.plan =
    subst (λ (n : ℕ). Plans v c.user-user.result n (ExchangeFiles x.dir.0 x.path.now x.second_dir.0 x.second_path.now) c.in-Ok.plan) c.latest.ensures
    (subst (λ (r : Result PlanValue PlanFault). IfOk r (Plans v c.user-user.result c.latest.result (ExchangeFiles x.dir.0 x.path.now x.second_dir.0 x.second_path.now))) c.in-Ok.is c.plan_exchange_files-answer.ensures.plan) in
    exchange-runs x.state.now x.session.0 _ x.volume.0 x.dir.0 x.second_dir.0 x.path.now x.second_path.now (exchange_files-row x.volume x.dir x.second_dir x.path.now x.second_path.now) refl c.user-user.result c.in-Some.index v c.in-Ok.plan
    (record { first = c.in_ok-pair-in-Ok.pair.0.0; second = c.in_ok-pair-in-Ok.pair.1.0 }) c.user-user.ensures c.in-Some.ensures c.whole_at-whole.ensures passes plans c.in_ok-pair-in-Ok.ensures _ _ c.exchange.ensures

pub returns-in-Err : goal.returns-in-Err
returns-in-Err g c =
    let x = c.args in
    let v = c.whole_at-whole.result.now.state in
    exchange-told x.state.now x.session.0 _ x.volume.0 x.dir.0 x.second_dir.0 x.path.now x.second_path.now (exchange_files-row x.volume x.dir x.second_dir x.path.now x.second_path.now) refl c.user-user.result c.in-Some.index v c.in-Err.fault _ _
    c.user-user.ensures c.in-Some.ensures c.whole_at-whole.ensures
    (subst (λ (r : Result PlanValue PlanFault). Refuses r (exchange_files_refusal v c.user-user.result x.dir.0 x.path.now x.second_dir.0 x.second_path.now)) c.in-Err.is c.plan_exchange_files-answer.ensures.refused)
    c.told_of.ensures
