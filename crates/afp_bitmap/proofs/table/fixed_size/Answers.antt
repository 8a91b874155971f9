use Rattle.std.proofs.Common.{sym, get_or, arith}
use Rattle.std.proofs.lemmas.List.{drop_more, drop_all}
use Rattle.afp_bitmap.specs.declared.table.Shape.TheVariants as shapes
use Rattle.afp_bitmap.specs.declared.table.Slot.{Slot}
use Rattle.afp_bitmap.proofs.Asked.{asked_size_none, asked_size_yes, asked_size_no}
use Rattle.afp_bitmap.proofs.table.fixed_size.Goals as goal
use Rattle.afp_bitmap.proofs.table.fixed_size.Goals.{then-is_asked, else-is_asked}

abbrev none : Slot
none = record { 0 = 0; 1 = shapes.Plain 0 }

pub overflow_add-size : goal.overflow_add-size
overflow_add-size c =
    let slot : Slot = get_or c.args.table.now c.loop-slot.slot-index none in
    let here = rw (drop_more c.args.table.now c.loop-slot.slot-index none c.loop-slot-test.true) at c.loop-slot.invariant in
    let now = rw (asked_size_yes c.args.bits slot _ (sym c.if-is_asked.ensures)) at here in
    omega arith

pub loop-slot-preserved : goal.loop-slot-preserved
loop-slot-preserved c =
    let slot : Slot = get_or c.args.table.now c.loop-slot.slot-index none in
    let here = rw (drop_more c.args.table.now c.loop-slot.slot-index none c.loop-slot-test.true) at c.loop-slot.invariant in
    elim c.if-is_asked.branch [
      | then-is_asked w ↦ let now = rw (asked_size_yes c.args.bits slot _ (sym w.if-is_asked.ensures)) at here in omega arith
      | else-is_asked w ↦ let now = rw (asked_size_no c.args.bits slot _ (sym w.if-is_asked.ensures)) at here in omega arith
    ]

pub returns : goal.returns
returns c =
    let here = rw (drop_all c.loop-slot.slot-index c.args.table.now c.loop-slot-test.false) at c.loop-slot.invariant in
    let now = rw (asked_size_none c.args.bits) at here in
    omega arith
