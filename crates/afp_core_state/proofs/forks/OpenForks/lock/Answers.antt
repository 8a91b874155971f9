use Rattle.std.proofs.Common.{◌≤◌, subst}
use Rattle.afp_base.specs.Overlap.{Range}
use Rattle.afp_core_state.proofs.HeldLocks.{lock-answers, lock-in-range, some-at}
use Rattle.afp_core_state.proofs.forks.OpenForks.lock.Goals as goal

pub lock-requires : goal.lock-requires
lock-requires c = some-at c.self.inside.table c.args.self.now c.args.r.0 c.self.view_is c.requires

pub invariant_of-self : goal.invariant_of-self
invariant_of-self c =
    let ends : (c.args.range.from ≤ c.args.range.to) × (c.args.range.to ≤ 9223372036854775807) = subst (λ (b : Range). (b.from ≤ b.to) × (b.to ≤ 9223372036854775807)) c.range.view_is c.range.invariant in
    lock-in-range c.args.self.now c.self.inside.table c.lock.new.self c.args.r.0 c.args.range c.lock.result c.self.invariant c.self.view_is c.requires ends.0 ends.1 c.lock.ensures.locks

pub returns : goal.returns
returns c = λ w x has number. lock-answers w x c.args.self.now c.self.inside.table c.lock.new.self c.args.r.0 c.args.range c.lock.result c.keeps_sound.ensures c.self.view_is c.requires c.lock.ensures.opens c.lock.ensures.locks has number
