use Rattle.std.proofs.Common.{◌-◌, List, arith, subst, drop}
use Rattle.volume_keeper.specs.kept.Kept.{KeptState}
use Rattle.afp_core_state.specs.lemma.Holding.{IsBeside, StandBeside}
use Rattle.afp_core_state.proofs.HoldingLemmas.{beside-more}
use Rattle.afp_core_state.proofs.keepers.stand_beside.Goals as goal

pub loop-index-preserved : goal.loop-index-preserved
loop-index-preserved g c =
    let k = g.K.Keeper in
    let kept : List KeptState = c.args.kept.now in
    let one = c.index-kept-index.result in
    let held : IsBeside k.records k.sure k.faults c.keeper-keeper.result.now one = record { image = c.keeper-keeper.ensures.records; counted = c.keeper-keeper.ensures.faults; so_sure = c.keeper-keeper.ensures.sure } in
    record {
      within = omega arith;
      beside = beside-more k.records k.sure k.faults kept (c.loop-index.index - 1) one c.keeper-keeper.result.now (omega arith)
          (subst (λ (x : KeptState). IsBeside k.records k.sure k.faults c.keeper-keeper.result.now x) c.index-kept-index.is held)
          (subst (λ n. StandBeside k.records k.sure k.faults (drop n kept)) (omega arith) c.loop-index.invariant.beside);
    }
