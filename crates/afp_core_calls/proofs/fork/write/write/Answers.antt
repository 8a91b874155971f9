use Rattle.std.proofs.Common.{◌≡◌, ◌∙◌, ◌<ℤ◌, ℤ, ap, of_z, pos, refl, rules, subst, sym, to_z, w64, false}
use Rattle.afp_calls_grammar.specs.declared.grammar.call.Call.TheVariants.{Write}
use Rattle.afp_serial.specs.ForkBytes.{writes}
use Rattle.afp_core_calls.specs.fork.lemma.OnForkBytes.{IsOffset, end_reply, write_asked}
use Rattle.afp_core_calls.proofs.OfFork.ForkBytesLemmas.{write-row}
use Rattle.afp_core_calls.proofs.fork.write.write.Goals as goal
use Rattle.afp_base.proofs.Facts.{is_negative-pos}

pub returns : goal.returns
returns g c = λ count.
    let a = c.args in
    let offset : to_z w64 (of_z w64 c.from.result) ≡ a.offset = search rules in
    let small : a.offset <ℤ pos 2147483648 = search rules in
    c.write_piece.ensures (Write a.flag a.reference a.offset count a.piece.now) (pos count)
    (write-row a.flag a.reference a.offset count a.piece.now ∙ ap (λ (z : ℤ). writes a.reference.0 (write_asked a.flag z (pos count) a.piece.now) (end_reply false)) (sym offset))
    refl (is_negative-pos count) (subst (λ (z : ℤ). IsOffset false z) (sym offset) small)
