use Rattle.std.proofs.Common.{◌≡◌, length, take, drop, vec_len}
use Rattle.afp_core.specs.keepers.Loads.{LoadEach}
use Rattle.record_keeper.specs.Records.{steadily}
use Rattle.afp_core.proofs.keepers.loading.load_named.Given as goal

abbrev pub invariant-loop-alloc : goal.invariant-loop-alloc
invariant-loop-alloc g l = record {
  same : length l.fn.keepers.items ≡ length l.names;
  rest : l.keepers.items ≡ drop (length l.kept.items) l.fn.keepers.items;
  loaded : LoadEach (steadily g.K.Keeper.steady g.K.Keeper.records) g.K.Keeper.sure g.K.Keeper.faults l.now (take (length l.kept.items) l.names) (take (length l.kept.items) l.fn.keepers.items) l.kept.items;
}

abbrev pub decreases-loop-alloc : goal.decreases-loop-alloc
decreases-loop-alloc g l = vec_len l.keepers
