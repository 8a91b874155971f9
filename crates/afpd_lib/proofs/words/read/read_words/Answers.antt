use Rattle.std.proofs.Common.{sym, subst, inl, inr, [], rules}
use Rattle.std.proofs.lemmas.Result.{IfOk-weaker}
use Rattle.clap.specs.Kinds.{HasKind}
use Rattle.afpd_lib.specs.words.Words.{SaysRows}
use Rattle.afpd_lib.specs.words.lemma.Values.{values_of}
use Rattle.afpd_lib.proofs.words.read.read_words.Goals as goal

pub returns-in-Ok-clause-found : goal.returns-in-Ok-clause-found
returns-in-Ok-clause-found c =
    IfOk-weaker c.words_in.result _ _ (λ said says. record { taken = c.in-Ok.ensures.fault; says = subst (λ rows. SaysRows rows (values_of said)) c.in-Ok.ensures.found says }) c.words_in.ensures.found

pub returns-in-Ok-clause-bad : goal.returns-in-Ok-clause-bad
returns-in-Ok-clause-bad c = λ err values says. c.words_in.ensures.bad err values (subst (λ rows. SaysRows rows values) (sym c.in-Ok.ensures.found) says.says)

pub returns-in-Err-clause-bad : goal.returns-in-Err-clause-bad
returns-in-Err-clause-bad c = λ err values says.
    let kinds : HasKind [] c.in-Err.error = subst (λ k. HasKind k c.in-Err.error) says.taken c.in-Err.ensures.fault in
    elim kinds [
      | inl memory ↦ c.fault_of.ensures (search rules) memory
      | inr none ↦ absurd none
    ]
