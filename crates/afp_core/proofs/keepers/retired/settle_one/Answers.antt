use Rattle.afp_core.proofs.OfKeepers.SettleLemmas.{asks-by}
use Rattle.afp_core.proofs.keepers.retired.settle_one.Goals as goal

pub returns-clause-asks : goal.returns-clause-asks
returns-clause-asks g c = record {
  after = c.keeper-after.result.now;
  is = asks-by c.args.kept c.settle-answer.new.self c.settle-answer.result (g.K.Keeper.faults c.keeper-after.result.now) (g.K.Keeper.sure c.keeper-after.result.now)
      (g.K.Keeper.settles c.keeper-after.result.now) c.keeper-after.ensures.faults c.keeper-after.ensures.sure c.keeper-after.ensures.settles c.settle-answer.ensures;
}
