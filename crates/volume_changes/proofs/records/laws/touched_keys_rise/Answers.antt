use Rattle.volume_changes.proofs.OfRecords.TouchedRising.{keys-rise}
use Rattle.volume_changes.proofs.records.laws.touched_keys_rise.Goals as goal

pub returns : goal.returns
returns c = keys-rise
