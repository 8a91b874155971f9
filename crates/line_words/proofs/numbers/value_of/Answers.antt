use Rattle.std.proofs.Common.{arith}
use Rattle.line_words.proofs.Values.{too_large, none_there}
use Rattle.line_words.proofs.numbers.value_of.Goals as goal

pub returns-then-next-from-clause-value : goal.returns-then-next-from-clause-value
returns-then-next-from-clause-value c =
    none_there _ _ (too_large c.args.digits.now c.loop-digit.digit-index c.loop-digit.value c.args.most (omega arith) c.loop-digit.invariant.value (omega arith))
