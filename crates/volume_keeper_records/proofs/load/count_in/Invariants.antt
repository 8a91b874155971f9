use Rattle.std.proofs.Common.{◌≡◌, ◌++◌, take, drop}
use Rattle.volume_keeper_records.specs.KeyOrder.{with_key}
use Rattle.volume_keeper_records.proofs.load.count_in.Given as goal

abbrev pub invariant-loop-place : goal.invariant-loop-place
invariant-loop-place l = record {
  same : l.records.items ≡ l.fn.records.items;
  rest : with_key l.key l.records.items ≡ take l.place l.records.items ++ with_key l.key (drop l.place l.records.items);
}
