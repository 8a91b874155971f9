use Rattle.std.proofs.Common.{◌∙◌, ◌==◌, ap, refl, subst, not}
use Rattle.afp_core_state.specs.OnForks.{IsFork}
use Rattle.afp_core_state.specs.KeptWorld.{KeptWorld}
use Rattle.afp_core_state.specs.lemma.KeptWorld.{forks_in, with_forks}
use Rattle.afp_core_calls.proofs.OfFork.ForkCallRows.{close_fork-row}
use Rattle.afp_core_calls.proofs.OfFork.OnForkLemmas.{fork-done, fork-unopened}
use Rattle.afp_core_state.specs.Forks.{left_of}
use Rattle.afp_core_calls.proofs.fork.close_fork.close_fork.Goals as goal

pub returns-in_default : goal.returns-in_default
returns-in_default g c =
    fork-unopened c.args.state.now c.args.session.0 _ c.args.reference.0 _ _ _ (close_fork-row c.args.reference) _
    (subst (IsFork c.args.state.now c.args.session.0 c.args.reference.0) c.in_default.is c.fork_at.ensures) c.refused.ensures

pub returns : goal.returns
returns g c =
    let left = c.close.ensures ∙ ap (λ (k : KeptWorld). left_of (λ o. not (o.reference == c.args.reference.0)) (forks_in k.world)) c.state.view_is in
    fork-done c.args.state.now c.args.session.0 _ c.args.reference.0 _ _ _ (close_fork-row c.args.reference) c.in-Some._own c.in-Some.ensures _ _ _ _ refl refl
    (ap (λ (k : KeptWorld). with_forks k c.close.new.self) c.state.view_is ∙ ap (with_forks c.args.state.now) left) c.new.ensures c.done.ensures
