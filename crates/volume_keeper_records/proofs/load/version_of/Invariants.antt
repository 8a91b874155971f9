use Rattle.std.proofs.Common.{◌≡◌, drop}
use Rattle.volume_keeper_records.specs.FirstBad.{version_in}
use Rattle.volume_keeper_records.specs.KeyOrder.{RisesByKey}
use Rattle.volume_keeper_records.proofs.load.version_of.Given as goal

abbrev pub invariant-loop-kept : goal.invariant-loop-kept
invariant-loop-kept l = record {
  rises : RisesByKey (drop l.kept-index l.records);
  same : version_in (drop l.kept-index l.records) ≡ version_in l.records;
}
