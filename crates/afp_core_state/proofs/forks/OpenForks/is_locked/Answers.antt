use Rattle.std.proofs.Common.{subst, sym, arith}
use Rattle.afp_core_state.specs.Forks.{HasForks}
use Rattle.afp_core_state.proofs.HeldLocks.{blocks-answers, no-bytes, none-behind, some-at}
use Rattle.afp_core_state.proofs.forks.OpenForks.is_locked.Goals as goal

pub returns-then-count-eq0 : goal.returns-then-count-eq0
returns-then-count-eq0 c = λ w o has number. no-bytes w o c.args.from c.args.count c.if-count-eq0.true

pub returns-then-from-gt-LAST_BYTE : goal.returns-then-from-gt-LAST_BYTE
returns-then-from-gt-LAST_BYTE c = λ w o has number.
    none-behind w c.self.inside.table o c.args.from c.args.count c.forks_are_shared_by_their_rules.ensures.behind (subst (HasForks w) (sym c.self.view_is) has) c.self.invariant c.if-from-gt-LAST_BYTE.true

pub blocks-requires : goal.blocks-requires
blocks-requires c = some-at c.self.inside.table c.args.self.now c.args.r.0 c.self.view_is c.requires

pub returns : goal.returns
returns c = λ w o has number.
    blocks-answers w o c.args.self.now c.self.inside.table c.args.r.0 c.args.from c.args.count c.min-to.result c.blocks-2.result c.forks_are_shared_by_their_rules.ensures.met c.self.invariant c.keeps_sound.ensures c.self.view_is c.requires
    c.if-count-eq0.false (omega (arith, c.min-to.ensures, c.saturating_add.ensures)) c.blocks-2.ensures has number
