use Rattle.volume_changes.specs.records.TouchedOrder.{is_fit_mapping}
use Rattle.volume_changes.proofs.OfRecords.Gathering.{all-take}
use Rattle.volume_changes.proofs.records.touched.mappings_in_range.Goals as goal

pub loop-i-preserved : goal.loop-i-preserved
loop-i-preserved c = all-take is_fit_mapping c.args.mappings.now c.loop-i.i _ c.loop-i-test.true c.loop-i.invariant c.mapping_in_range.ensures
