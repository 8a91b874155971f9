use Rattle.std.proofs.Common.{◌++◌, drop, length, map}
use Rattle.std.specs.List.{concat}
use Rattle.afp_bitmap.specs.Field.{fixed_bytes}
use Rattle.afp_bitmap.specs.Params.{asked_of}
use Rattle.afp_base.specs.Appended.{Keeps}
use Rattle.afp_bitmap.specs.lemma.Writing.{row_of, spots_of, all_noted, no_spots}
use Rattle.afp_bitmap.proofs.Loops.{Goes}
use Rattle.afp_bitmap.proofs.write.put_fixed_part.Given as goal

-- with the rows to come the fixed part is whole, all names are noted, and what stood before is there
abbrev pub invariant-loop-row : goal.invariant-loop-row
invariant-loop-row l =
    Goes l.bits (map row_of (drop l.row-index l.rows)) (length l.initial.out) l.out (spots_of l.spots) (l.initial.out ++ concat (map (fixed_bytes 0) (asked_of l.bits (map row_of l.rows))))
    (all_noted 0 (asked_of l.bits (map row_of l.rows)) no_spots)
    × Keeps l.initial.out l.out
