use Rattle.std.proofs.Common.{◌≡◌, ◌+◌, ◌≤◌, length, map, count_by, not, vec_len}
use Rattle.afp_serial.specs.Limits.{most_volumes}
use Rattle.afp_core.proofs.OfKeepers.SettleLemmas.{Asked}
use Rattle.afp_core.proofs.keepers.retired.settle_all.Given as goal

abbrev pub invariant-loop-retired : goal.invariant-loop-retired
invariant-loop-retired g l = record {
  failed : l.retired.failed + count_by not (map (λ k. k.sure) l.kept.items) ≤ count_by not (map (λ k. k.sure) l.fn.kept.items);
  volumes : l.retired.volumes + length l.kept.items ≡ length l.fn.kept.items;
  most : l.retired.failed + l.retired.memory ≤ l.retired.volumes;
  few : length l.fn.kept.items ≤ most_volumes;
  asked : Asked g.K.Keeper.faults g.K.Keeper.sure g.K.Keeper.settles l.fn.kept.items l.kept.items l.retired.failed l.retired.memory;
}

abbrev pub decreases-loop-retired : goal.decreases-loop-retired
decreases-loop-retired g l = vec_len l.kept
