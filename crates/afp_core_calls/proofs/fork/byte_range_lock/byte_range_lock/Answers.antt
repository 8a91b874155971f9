use Rattle.std.proofs.Common.{◌≡◌, ◌∙◌, ◌<ℤ◌, ℤ, of_z, pos, refl, rules, subst, sym, to_z, w64, false}
use Rattle.afp_calls_grammar.specs.declared.grammar.call.Call.TheVariants.{ByteRangeLock}
use Rattle.afp_serial.specs.Lock.{lock_asked, locks}
use Rattle.afp_core_calls.specs.fork.lemma.OnForkBytes.{IsOffset, start_reply}
use Rattle.afp_core_calls.proofs.OfFork.ForkBytesLemmas.{lock-row}
use Rattle.afp_core_calls.proofs.fork.byte_range_lock.byte_range_lock.Goals as goal

pub returns : goal.returns
returns g c =
    let a = c.args in
    let offset : to_z w64 (of_z w64 c.from-offset.result) ≡ a.offset = search rules in
    let count : to_z w64 (of_z w64 c.from-length.result) ≡ a.length = search rules in
    let small : a.offset <ℤ pos 2147483648 = search rules in
    c.lock_asked.ensures (ByteRangeLock a.flags a.reference a.offset a.length)
    (lock-row a.flags a.reference a.offset a.length ∙ (λ i. locks a.reference.0 (lock_asked a.flags (sym offset i) (sym count i)) (start_reply false))) refl
    (subst (λ (z : ℤ). IsOffset false z) (sym offset) small)
