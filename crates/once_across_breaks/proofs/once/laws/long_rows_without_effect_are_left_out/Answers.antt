use Rattle.once_across_breaks.proofs.OfOnce.WithoutPremises.{old-answer}
use Rattle.once_across_breaks.proofs.once.laws.long_rows_without_effect_are_left_out.Goals as goal

pub returns : goal.returns
returns c = old-answer
