use Rattle.std.proofs.Common.{◌≡◌, ◌∙◌, ◌<ℤ◌, ℤ, ap, of_z, pos, refl, rules, subst, sym, to_z, w64, false, true}
use Rattle.std.specs.Int.{is_negative}
use Rattle.afp_calls_grammar.specs.declared.grammar.call.Call.TheVariants.{WriteExt}
use Rattle.afp_serial.specs.ForkBytes.{writes}
use Rattle.afp_core_calls.specs.fork.lemma.OnForkBytes.{IsOffset, end_reply, write_asked}
use Rattle.afp_core_calls.proofs.OfFork.ForkBytesLemmas.{write_ext-row}
use Rattle.afp_core_calls.proofs.OfFork.ForkWriteLemmas.{write-negative}
use Rattle.afp_core_calls.proofs.fork.write.write_ext.Goals as goal

pub returns-then-count-lt0 : goal.returns-then-count-lt0
returns-then-count-lt0 g c =
    let a = c.args in
    write-negative a.state.now a.session.0 (WriteExt a.flag a.reference a.offset a.count a.piece.now) a.reference.0 true (write_asked a.flag a.offset a.count a.piece.now)
    (write_ext-row a.flag a.reference a.offset a.count a.piece.now) refl _ (search rules) c.refused.ensures

pub returns : goal.returns
returns g c =
    let a = c.args in
    let offset : to_z w64 (of_z w64 a.offset) ≡ a.offset = search rules in
    let counted : is_negative a.count ≡ false = search rules in
    let small : a.offset <ℤ pos 9223372036854775808 = search rules in
    c.write_piece.ensures (WriteExt a.flag a.reference a.offset a.count a.piece.now) a.count
    (write_ext-row a.flag a.reference a.offset a.count a.piece.now ∙ ap (λ (z : ℤ). writes a.reference.0 (write_asked a.flag z a.count a.piece.now) (end_reply true)) (sym offset))
    refl counted (subst (λ (z : ℤ). IsOffset true z) (sym offset) small)
