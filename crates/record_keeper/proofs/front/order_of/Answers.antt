use Rattle.std.proofs.Common.{sym, arith}
use Rattle.record_keeper.proofs.front.order_of.Goals as goal
use Rattle.record_keeper.proofs.FrontLemmas.{front_less, front_greater}

pub returns-then-front-other_front : goal.returns-then-front-other_front
returns-then-front-other_front c =
    sym (front_less 16 c.args.bytes.now c.args.other.now c.bytes_in_range.ensures c.bytes_in_range-2.ensures (omega (arith, c.requires.front, c.requires.other, c.if-front-other_front.true)))

pub returns-then-other_front-front : goal.returns-then-other_front-front
returns-then-other_front-front c =
    sym (front_greater 16 c.args.bytes.now c.args.other.now c.bytes_in_range.ensures c.bytes_in_range-2.ensures (omega (arith, c.requires.front, c.requires.other, c.if-other_front-front.true)))
