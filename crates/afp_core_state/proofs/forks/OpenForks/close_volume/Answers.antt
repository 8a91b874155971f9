use Rattle.std.proofs.Common.{◌∙◌, refl, ap, ◌==◌, ◌&&◌, not}
use Rattle.fork_table.specs.ForkTable.{is_of_volume}
use Rattle.afp_core_state.specs.Forks.{forks_of, left_of}
use Rattle.afp_core_state.proofs.HeldLocks.{close-is, closed-in-range}
use Rattle.afp_core_state.proofs.forks.OpenForks.close_volume.Goals as goal

pub invariant_of-self : goal.invariant_of-self
invariant_of-self c = closed-in-range _ c.self.inside.table c.close_volume.new.self c.close_volume.ensures c.self.invariant

pub returns : goal.returns
returns c = ap forks_of c.close_volume.ensures ∙ close-is (is_of_volume c.args.s.0 c.args.v.0) (λ o. not ((o.session == c.args.s.0) && (o.fork.volume == c.args.v.0))) c.self.inside.table (λ r o. refl) ∙ ap (left_of (λ o. not ((o.session == c.args.s.0) && (o.fork.volume == c.args.v.0)))) c.self.view_is
