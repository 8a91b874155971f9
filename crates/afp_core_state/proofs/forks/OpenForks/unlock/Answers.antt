use Rattle.afp_core_state.proofs.HeldLocks.{unlock-answers, unlock-in-range, some-at}
use Rattle.afp_core_state.proofs.forks.OpenForks.unlock.Goals as goal

pub unlock-requires : goal.unlock-requires
unlock-requires c = some-at c.self.inside.table c.args.self.now c.args.r.0 c.self.view_is c.requires

pub invariant_of-self : goal.invariant_of-self
invariant_of-self c = unlock-in-range c.args.self.now c.self.inside.table c.unlock.new.self c.args.r.0 c.args.range c.unlock.result c.self.invariant c.self.view_is c.requires c.unlock.ensures.locks

pub returns : goal.returns
returns c = λ w x has number. unlock-answers w x c.args.self.now c.self.inside.table c.unlock.new.self c.args.r.0 c.args.range c.unlock.result c.keeps_sound.ensures c.self.view_is c.requires c.unlock.ensures.opens c.unlock.ensures.locks has number
