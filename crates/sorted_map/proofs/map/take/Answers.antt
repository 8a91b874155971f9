use Rattle.sorted_map.proofs.OfMap.Places.{taken, taken_value, none_taken, got_none}
use Rattle.std.proofs.Common.{refl}
use Rattle.sorted_map.proofs.map.take.Goals as goal

pub returns-in-Ok-clause-value : goal.returns-in-Ok-clause-value
returns-in-Ok-clause-value g c = taken_value g.met.K.Ord.total c.as_slice.ensures.value c.requires c.in-Ok.ensures.found c.remove-value.result c.remove-value.ensures.value

pub returns-in-Ok-clause-entries : goal.returns-in-Ok-clause-entries
returns-in-Ok-clause-entries g c = taken g.met.K.Ord.total c.as_slice.ensures.value c.requires c.in-Ok.ensures.found c.remove-value.ensures.items

pub returns-in-Err-clause-value : goal.returns-in-Err-clause-value
returns-in-Err-clause-value g c = got_none g.met.K.Ord.total c.as_slice.ensures.value refl c.in-Err.ensures.absent

pub returns-in-Err-clause-entries : goal.returns-in-Err-clause-entries
returns-in-Err-clause-entries g c = none_taken g.met.K.Ord.total c.as_slice.ensures.value c.in-Err.ensures.absent
