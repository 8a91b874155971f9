use Rattle.std.proofs.Common.{refl}
use Rattle.std.proofs.lemmas.Option.{slice_get-get_or}
use Rattle.once_across_breaks_live.proofs.lane.lose_at.Goals as goal

pub returns : goal.returns
returns g c = record { old = _; new = c.lose.new.self; there = slice_get-get_or c.args.lanes.now c.args.index c.index-lanes-index.result c.requires; set_there = refl; changed = c.lose.ensures }
