use Rattle.std.proofs.Common.{◌∙◌, sym, arith, ◌+◌, ◌-◌, ◌/◌}
use Rattle.fork_table.proofs.References.{halved_whole, halved_up, halved_down, is_lowest}
use Rattle.fork_table.proofs.rows.lowest_free.Goals as goal

pub loop-low-init : goal.loop-low-init
loop-low-init c = halved_whole c.args.rows.now

pub offset_bounds-rows-middle : goal.offset_bounds-rows-middle
offset_bounds-rows-middle c = omega (arith, c.loop-low.invariant.within, c.requires.room)

pub bounds-rows-middle : goal.bounds-rows-middle
bounds-rows-middle c = omega (arith, c.loop-low.invariant.within)

pub bounds-rows-middle-in-loop-low : goal.bounds-rows-middle-in-loop-low
bounds-rows-middle-in-loop-low c = omega (arith, c.loop-low.invariant.within)

pub loop-low-preserved-then-from-middle : goal.loop-low-preserved-then-from-middle
loop-low-preserved-then-from-middle c =
    halved_up c.args.rows.now c.requires.order c.requires.from_one c.loop-low.low c.loop-low.high (c.loop-low.low + (c.loop-low.high - c.loop-low.low) / 2) c.index-rows-middle.result
    c.loop-low.invariant (omega arith) (sym c.from.ensures ∙ c.if-from-middle.true)

pub loop-low-preserved : goal.loop-low-preserved
loop-low-preserved c =
    halved_down c.args.rows.now c.requires.order c.requires.from_one c.loop-low.low c.loop-low.high (c.loop-low.low + (c.loop-low.high - c.loop-low.low) / 2) c.index-rows-middle.result
    c.loop-low.invariant (omega arith) (omega arith) (λ is. c.if-from-middle.false (c.from.ensures ∙ is))

pub overflow_cast-result : goal.overflow_cast-result
overflow_cast-result c = omega (arith, c.loop-low.invariant.order, c.loop-low.invariant.within, c.requires.room)

pub overflow_add-result : goal.overflow_add-result
overflow_add-result c = omega (arith, c.loop-low.invariant.order, c.loop-low.invariant.within, c.requires.room)

pub returns : goal.returns
returns c = is_lowest c.args.rows.now c.loop-low.low c.loop-low.high c.loop-low.invariant c.loop-low-test.false
