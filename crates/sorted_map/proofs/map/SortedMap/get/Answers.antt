use Rattle.sorted_map.proofs.OfMap.Places.{got, got_none}
use Rattle.sorted_map.proofs.map.SortedMap.get.Goals as goal

pub returns-in-Ok : goal.returns-in-Ok
returns-in-Ok g c = got g.met.K.Ord.total c.as_slice-entries.ensures.value c.self.view_is c.self.invariant c.in-Ok.ensures.found c.index-entries-place.result

pub returns-in-Err : goal.returns-in-Err
returns-in-Err g c = got_none g.met.K.Ord.total c.as_slice-entries.ensures.value c.self.view_is c.in-Err.ensures.absent
