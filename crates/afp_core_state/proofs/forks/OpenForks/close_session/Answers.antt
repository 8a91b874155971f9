use Rattle.std.proofs.Common.{◌∙◌, refl, ap, ◌==◌, not}
use Rattle.fork_table.specs.ForkTable.{is_open_of_session}
use Rattle.afp_core_state.specs.Forks.{forks_of, left_of}
use Rattle.afp_core_state.proofs.HeldLocks.{close-is, closed-in-range}
use Rattle.afp_core_state.proofs.forks.OpenForks.close_session.Goals as goal

pub invariant_of-self : goal.invariant_of-self
invariant_of-self c = closed-in-range _ c.self.inside.table c.close_session.new.self c.close_session.ensures c.self.invariant

pub returns : goal.returns
returns c = ap forks_of c.close_session.ensures ∙ close-is (is_open_of_session c.args.s.0) (λ o. not (o.session == c.args.s.0)) c.self.inside.table (λ r o. refl) ∙ ap (left_of (λ o. not (o.session == c.args.s.0))) c.self.view_is
