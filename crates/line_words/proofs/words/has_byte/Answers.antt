use Rattle.std.proofs.Common.{◌∙◌, sym, ap}
use Rattle.std.specs.Prelude.{is_some}
use Rattle.line_words.proofs.Places.{found, some_place}
use Rattle.line_words.proofs.words.has_byte.Goals as goal

pub returns-clause-place : goal.returns-clause-place
returns-clause-place c = c.is_some.ensures ∙ (ap (λ o. is_some o) c.place_of.ensures ∙ found _ c.args.text.now)

pub returns-clause-any : goal.returns-clause-any
returns-clause-any c = c.is_some.ensures ∙ (ap (λ o. is_some o) c.place_of.ensures ∙ (found _ c.args.text.now ∙ sym (some_place _ c.args.text.now)))
