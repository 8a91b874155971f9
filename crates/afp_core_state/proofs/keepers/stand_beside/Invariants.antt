use Rattle.std.proofs.Common.{◌≤◌, length, drop}
use Rattle.afp_core_state.specs.lemma.Holding.{StandBeside}
use Rattle.afp_core_state.proofs.keepers.stand_beside.Given as goal

abbrev pub invariant-loop-index : goal.invariant-loop-index
invariant-loop-index g l = record {
  within : l.index ≤ length l.kept;
  beside : StandBeside g.K.Keeper.records g.K.Keeper.sure g.K.Keeper.faults (drop l.index l.kept);
}

abbrev pub decreases-loop-index : goal.decreases-loop-index
decreases-loop-index g l = l.index
