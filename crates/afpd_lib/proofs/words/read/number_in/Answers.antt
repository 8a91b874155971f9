use Rattle.std.proofs.Common.{◌≡◌, ◌∙◌, sym, ap, Some, arith, ℕ, inl, inr, List}
use Rattle.std.specs.Str.Parse.{digits_value, without_leading_plus}
use Rattle.afpd_lib.proofs.words.read.number_in.Goals as goal

some-same : (a b : List ℕ) → Some a ≡ Some b → a ≡ b
some-same a b is = cc

pub returns-then-number-least-clause-bad : goal.returns-then-number-least-clause-bad
returns-then-number-least-clause-bad c = λ _ number is least most.
    let text : is.text ≡ c.in_ok-text.text.now = some-same _ _ (sym is.found ∙ c.in_ok-text.ensures) in
    let value : digits_value 10 (without_leading_plus is.text) ≡ digits_value 10 (without_leading_plus c.in_ok-text.text.now) = ap (λ t. digits_value 10 (without_leading_plus t)) text in
    let same : c.in_ok-number.number ≡ number = sym c.in_ok-number.ensures.found.1 ∙ sym value ∙ is.spells.1 in
    elim c.then-number-least.either [
      | inl below ↦ absurd (omega (arith, same, least, below))
      | inr above ↦ absurd (omega (arith, same, most, above.1))
    ]
