use Rattle.std.proofs.lemmas.List.{drop_more, drop_all}
use Rattle.std.proofs.lemmas.Result.{err_from_is_err_and}
use Rattle.afp_bitmap.specs.declared.table.Shape.TheVariants as shapes
use Rattle.afp_bitmap.specs.declared.table.Slot.{Slot}
use Rattle.afp_bitmap.proofs.Walks.{walk_goes_on, walk_fails, walk_done}
use Rattle.afp_bitmap.proofs.judge.walk.Goals as goal

abbrev none : Slot
none = record { 0 = 0; 1 = shapes.Plain 0 }

pub returns-in_err-walk : goal.returns-in_err-walk
returns-in_err-walk c =
    let p = err_from_is_err_and c.from_residual.result c.from_residual.ensures.1 in
    let here = rw (drop_more c.args.table.now c.loop-slot.slot-index none c.loop-slot-test.true) at c.loop-slot.invariant.goes_on in
    rw (p.1, p.2, ← c.fixed_size-first.ensures) (walk_fails c.in_err-walk.field-0.0 _ _ _ _ _ _ c.in_err-walk.ensures here)

pub loop-slot-preserved : goal.loop-slot-preserved
loop-slot-preserved c =
    let here = rw (drop_more c.args.table.now c.loop-slot.slot-index none c.loop-slot-test.true) at c.loop-slot.invariant.goes_on in
    record { goes_on = walk_goes_on _ _ _ _ _ _ _ c.in_ok-walk.ensures here }

pub returns : goal.returns
returns c =
    let here = rw (drop_all c.loop-slot.slot-index c.args.table.now c.loop-slot-test.false) at c.loop-slot.invariant.goes_on in
    rw (← c.fixed_size-first.ensures) (walk_done _ _ _ _ here)
