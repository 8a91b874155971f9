use Rattle.std.proofs.Common.{ap}
use Rattle.std.specs.Prelude.{is_some, is_ok}
use Rattle.sorted_map.proofs.OfMap.Places.{put_with, not_both}
use Rattle.sorted_map.proofs.map.put.Goals as goal

pub returns-in-Ok-clause-entries : goal.returns-in-Ok-clause-entries
returns-in-Ok-clause-entries g c = absurd (not_both g.met.K.Ord.total c.as_slice.ensures.value c.requires.order c.in-Ok.ensures.found (c.requires.absent (ap is_some c.in-Some.is)))

pub returns-in-Ok-clause-len : goal.returns-in-Ok-clause-len
returns-in-Ok-clause-len g c = absurd (not_both g.met.K.Ord.total c.as_slice.ensures.value c.requires.order c.in-Ok.ensures.found (c.requires.absent (ap is_some c.in-Some.is)))

pub returns-in-Err-clause-entries : goal.returns-in-Err-clause-entries
returns-in-Err-clause-entries g c =
    put_with g.met.K.Ord.total c.args.key c.in-Some.value c.as_slice.ensures.value c.in-Err.ensures.absent (is_ok c.insert.result) (c.insert.ensures.succeeds (c.requires.room (ap is_some c.in-Some.is)))
    c.insert.ensures.items c.args.value c.in-Some.is
