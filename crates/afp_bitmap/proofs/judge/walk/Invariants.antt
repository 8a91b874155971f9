use Rattle.std.proofs.Common.{◌≡◌, drop}
use Rattle.afp_bitmap.specs.lemma.Reading.{walked, walk_of, start}
use Rattle.afp_bitmap.proofs.judge.walk.Given as goal

-- going on from here gives what the whole walk gives
abbrev pub invariant-loop-slot : goal.invariant-loop-slot
invariant-loop-slot l = record {
  goes_on : walked l.bits l.first (drop l.slot-index l.table) (walk_of l.walk) ≡ walked l.bits l.first l.table (start l.bytes);
}
