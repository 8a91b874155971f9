use Rattle.std.proofs.Common.{◌≡◌, take}
use Rattle.volume_keeper_records.specs.lemma.Judged.{places_in}
use Rattle.volume_keeper_records.proofs.pass.all_places.Given as goal

abbrev pub invariant-loop-row : goal.invariant-loop-row
invariant-loop-row l = l.places.items ≡ places_in (take l.row-index l.rows)
