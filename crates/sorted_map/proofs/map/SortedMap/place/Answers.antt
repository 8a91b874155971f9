use Rattle.std.proofs.Common.{sym}
use Rattle.sorted_map.proofs.OfMap.Places.{got_none}
use Rattle.sorted_map.proofs.map.SortedMap.place.Goals as goal

pub returns-in-Err : goal.returns-in-Err
returns-in-Err g c = sym (got_none g.met.K.Ord.total c.as_slice.ensures.value c.self.view_is c.in-Err.ensures.absent)
