use Rattle.volume_keeper.proofs.OfKept.Lines.{ends, stops}
use Rattle.volume_keeper.proofs.kept.laws.lines_stop_at_characters.Goals as goal

pub returns : goal.returns
returns c = record { stopped = stops; bytes = ends }
