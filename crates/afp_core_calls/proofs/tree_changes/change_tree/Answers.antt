use Rattle.std.proofs.Common.{◌≡◌, ap, subst, sym}
use Rattle.afp_serial.specs.OnVolume.{opened_on}
use Rattle.volume_edits.specs.plans.Requests.{tree_call}
use Rattle.volume_tree.specs.Shown.{opened}
use Rattle.afp_core_state.specs.KeptWorld.{KeptWorld}
use Rattle.afp_core_state.specs.lemma.KeptWorld.{forks_in}
use Rattle.afp_core_state.specs.OnVolumes.{IsOpen}
use Rattle.afp_core_state.specs.Planned.{MayCommitAt, RunsPlan}
use Rattle.afp_core_state.proofs.ForkLemmas.{has-forks}
use Rattle.std.specs.Prelude.{IfOk, Result}
use Rattle.volume_edits.specs.edits.Planned.{PlanValue}
use Rattle.volume_tree.specs.declared.resolve.PlanFault.{PlanFault}
use Rattle.afp_core_calls.proofs.OfTree.TreeRows.{changes-commit, changes-runs, changes-unopened}
use Rattle.afp_core_calls.proofs.tree_changes.change_tree.Goals as goal

pub returns-in_default : goal.returns-in_default
returns-in_default g c = λ t reply after changes is told.
    changes-unopened c.args.state.now c.args.session.0 c.args.call.now after c.args.volume.0 t reply changes _
    (subst (IsOpen c.args.state.now c.args.session.0 c.args.volume.0) c.in_default.is c.opened.ensures) c.refused.ensures

pub run_plan-requires-clause-may : goal.run_plan-requires-clause-may
run_plan-requires-clause-may g c =
    subst (λ (r : Result PlanValue PlanFault). IfOk r (λ plan. MayCommitAt c.args.state.now c.in-Some.index plan)) (sym c.unless-answer.ensures)
    (changes-commit c.args.state.now c.in-Some.index c.user-user.result c.whole_at-whole.result.now.state c.latest.result c.args.behind (tree_call c.args.call.now) c.plan_tree_call-planned.result c.whole_at-whole.ensures c.requires c.plan_tree_call-planned.ensures.plan)

pub returns : goal.returns
returns g c = λ t reply after changes is told.
    let k = c.args.state.now in
    let planned = c.plan_tree_call-planned in
    let opens : opened c.on-opens.result ≡ opened_on k.world c.args.volume.0 =
    c.on-opens.ensures k.world (has-forks k.world c.state.inside.forks (ap (λ (x : KeptWorld). forks_in x.world) c.state.view_is)) in
    changes-runs k c.args.session.0 c.args.call.now after c.args.volume.0 t reply changes c.run_plan.new.state c.user-user.result c.in-Some.index c.whole_at-whole.result.now.state c.latest.result (opened c.on-opens.result) c.args.behind
    planned.result c.args.block c.run_plan.result c.user-user.ensures c.in-Some.ensures c.whole_at-whole.ensures c.latest.ensures opens is told planned.ensures.refused planned.ensures.plan planned.ensures.effect
    (subst (λ (r : Result PlanValue PlanFault). RunsPlan k c.in-Some.index r c.args.block c.run_plan.result c.run_plan.new.state) c.unless-answer.ensures c.run_plan.ensures)
