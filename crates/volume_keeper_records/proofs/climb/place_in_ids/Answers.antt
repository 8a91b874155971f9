use Rattle.std.specs.Prelude.{Ok, Err}
use Rattle.volume_keeper_records.proofs.Climbing.{found_place}
use Rattle.volume_keeper_records.proofs.climb.place_in_ids.Goals as goal

pub returns-in-Ok : goal.returns-in-Ok
returns-in-Ok c = found_place c.args.ids.now c.args.id (Ok c.in-Ok.place) c.requires c.in-Ok.ensures.position

pub returns-in-Err : goal.returns-in-Err
returns-in-Err c = found_place c.args.ids.now c.args.id (Err c.in-Err.field-0) c.requires c.in-Err.ensures.position
