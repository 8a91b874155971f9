use Rattle.std.proofs.Common.{subst, sym, ◌<◌, ◌^◌, ℕ}
use Rattle.std.specs.Str.Parse.{ParsesUnsigned}
use Rattle.afpd_lib.proofs.words.number.number_of.Goals as goal

pub returns-in-Err-clause-bad : goal.returns-in-Err-clause-bad
returns-in-Err-clause-bad c = λ _ number fits spells.
    subst (λ r. ParsesUnsigned 64 10 c.args.text.now r) c.in-Err.is c.parse.ensures.value.0 (spells.0, subst (λ (n : ℕ). n < 2 ^ 64) (sym spells.1) fits)
