use Rattle.volume_spec.specs.TypedVolume.{is_long}
use Rattle.volume_changes.specs.declared.records.touched.ForkPlace.{ForkPlace}
use Rattle.volume_changes.proofs.OfRecords.Gathering.{all-take}
use Rattle.volume_changes.proofs.records.touched.forks_in_range.Goals as goal

pub loop-i-preserved : goal.loop-i-preserved
loop-i-preserved c = all-take (λ (p : ForkPlace). is_long p.node) c.args.forks.now c.loop-i.i _ c.loop-i-test.true c.loop-i.invariant c.fork_in_range.ensures
