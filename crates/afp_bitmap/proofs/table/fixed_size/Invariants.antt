use Rattle.std.proofs.Common.{◌≡◌, ◌+◌, drop}
use Rattle.afp_bitmap.specs.lemma.Reading.{asked_size}
use Rattle.afp_bitmap.proofs.table.fixed_size.Given as goal

-- the size so far, and that of the rows to come
abbrev pub invariant-loop-slot : goal.invariant-loop-slot
invariant-loop-slot l = l.size + asked_size l.bits (drop l.slot-index l.table) ≡ asked_size l.bits l.table
