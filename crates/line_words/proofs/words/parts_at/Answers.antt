use Rattle.std.proofs.Common.{ℕ, ap, take}
use Rattle.line_words.proofs.Places.{place_is}
use Rattle.line_words.proofs.words.parts_at.Goals as goal

pub returns-in-Some-clause-before : goal.returns-in-Some-clause-before
returns-in-Some-clause-before c = ap (λ (n : ℕ). take n c.args.text.now) (place_is _ c.args.text.now c.in-Some.place c.in-Some.ensures)
