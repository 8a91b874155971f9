use Rattle.volume_keeper.proofs.OfKept.Loads.{fresh_where_steady, loaded_steady}
use Rattle.volume_keeper.proofs.kept.kept.KeptVolume.load.Goals as goal

pub returns-in-Ok-clause-loaded : goal.returns-in-Ok-clause-loaded
returns-in-Ok-clause-loaded g c = record {
  name_is = c.in-Ok.ensures.named;
  sound = c.keeps_sound.ensures.sound;
  typed = c.keeps_sound.ensures.typed;
  fresh = fresh_where_steady (g.K.Keeper.steady c.args.keeper) c.args.name.now c.args.now c.in-Ok.whole (g.K.Keeper.records c.args.keeper) (g.K.Keeper.records c.load.new.keeper) c.in-Ok.ensures.records (λ s. c.in-Ok.ensures.told s c.in-Ok.ensures.cause.answered);
  sure_is = c.in-Ok.ensures.sure;
  faults_are = c.in-Ok.ensures.cause.answered;
}

pub returns-in-Ok-clause-from : goal.returns-in-Ok-clause-from
returns-in-Ok-clause-from g c =
    loaded_steady (g.K.Keeper.steady c.args.keeper) c.args.name.now c.args.now c.in-Ok.whole (g.K.Keeper.records c.args.keeper) (g.K.Keeper.records c.load.new.keeper) c.in-Ok.ensures.records (λ s. c.in-Ok.ensures.told s c.in-Ok.ensures.cause.answered)
