use Rattle.std.proofs.Common.{◌∙◌, sym, ap, subst, ◌==◌, not}
use Rattle.afp_core_state.specs.Forks.{left_of}
use Rattle.afp_core_state.specs.lemma.LockRanges.{AreInRange}
use Rattle.afp_core_state.proofs.HeldLocks.{close-one, left-in-range}
use Rattle.afp_core_state.proofs.forks.OpenForks.close.Goals as goal

pub invariant_of-self : goal.invariant_of-self
invariant_of-self c = subst AreInRange (sym c.close.ensures.locks) (left-in-range _ c.self.inside.table.locks c.self.invariant)

pub returns : goal.returns
returns c = close-one c.self.inside.table c.close.new.self c.args.r.0 c.keeps_sound.ensures c.close.ensures.opens c.close.ensures.locks ∙ ap (left_of (λ o. not (o.reference == c.args.r.0))) c.self.view_is
