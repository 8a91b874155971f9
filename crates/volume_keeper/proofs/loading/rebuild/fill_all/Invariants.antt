use Rattle.std.proofs.Common.{◌≡◌, drop}
use Rattle.volume_keeper.specs.loading.lemma.Rebuilt.{FitRows, with_blocks}
use Rattle.volume_keeper.proofs.loading.rebuild.fill_all.Given as goal

abbrev pub invariant-loop-i : goal.invariant-loop-i
invariant-loop-i l = record {
  fit : FitRows (drop l.i l.rows) l.volume.state;
  same : with_blocks (drop l.i l.rows) l.volume.state ≡ with_blocks l.rows l.fn.volume.state;
}
