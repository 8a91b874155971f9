use Rattle.std.proofs.Common.{refl, subst}
use Rattle.afp_core_state.specs.OnForks.{IsFork}
use Rattle.afp_core_calls.proofs.OfFork.ForkCallRows.{flush_fork-row}
use Rattle.afp_core_calls.proofs.OfFork.OnForkLemmas.{fork-asks, fork-settles, fork-unasked, fork-unopened}
use Rattle.afp_core_calls.proofs.fork.flush_fork.flush_fork.Goals as goal

pub settle_at-answer-requires : goal.settle_at-answer-requires
settle_at-answer-requires g c = c.in-Some.ensures.within

pub returns-in_default-clause-runs : goal.returns-in_default-clause-runs
returns-in_default-clause-runs g c =
    fork-unopened c.args.state.now c.args.session.0 _ c.args.reference.0 _ _ _ (flush_fork-row c.args.reference) _
    (subst (IsFork c.args.state.now c.args.session.0 c.args.reference.0) c.in_default.is c.fork_at.ensures) c.refused.ensures

pub returns-in_default-clause-settles : goal.returns-in_default-clause-settles
returns-in_default-clause-settles g c =
    fork-unasked c.args.state.now c.args.session.0 _ c.args.reference.0 _ _ _ (flush_fork-row c.args.reference) c.refused.result
    (subst (IsFork c.args.state.now c.args.session.0 c.args.reference.0) c.in_default.is c.fork_at.ensures)

pub returns-clause-runs : goal.returns-clause-runs
returns-clause-runs g c =
    fork-settles c.args.state.now c.args.session.0 _ c.args.reference.0 _ _ _ (flush_fork-row c.args.reference) c.in-Some.own c.in-Some.ensures _ c.settle_at-answer.result _ refl refl refl
    c.settle_at-answer.ensures c.told_settled.ensures

pub returns-clause-settles : goal.returns-clause-settles
returns-clause-settles g c =
    fork-asks c.args.state.now c.args.session.0 _ c.args.reference.0 _ _ _ (flush_fork-row c.args.reference) c.in-Some.own c.in-Some.ensures _ c.settle_at-answer.result _ refl refl
    c.settle_at-answer.ensures c.told_settled.ensures
