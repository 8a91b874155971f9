use Rattle.volume_keeper.proofs.OfLoading.Loads.{faulted, loaded, refused}
use Rattle.volume_keeper.proofs.loading.loading.load.Goals as goal

pub returns-in-Ok-made_in-clause-records : goal.returns-in-Ok-made_in-clause-records
returns-in-Ok-made_in-clause-records g c =
    loaded c.records_are_images.ensures.rising c.older_records_migrate.ensures c.args.name.now c.args.now c.in-Ok.records.items c.in-Ok-made_in.made.changes.items c.in-Ok-made_in.made.whole.state
    c.in-Ok.ensures.rises c.in-Ok-made_in.ensures.ok c.commit_made.result c.commit_made.ensures.same c.commit_made.ensures.fault
    (g.K.Keeper.records c.args.keeper.now) (g.K.Keeper.records c.read_all.new.keeper) (g.K.Keeper.records c.commit_made.new.keeper) c.in-Ok.ensures.records c.in-Ok.ensures.all c.commit_made.ensures.ok c.commit_made.ensures.err

pub returns-in-Err-made_in-clause-records : goal.returns-in-Err-made_in-clause-records
returns-in-Err-made_in-clause-records g c =
    faulted c.args.name.now c.args.now c.in-Ok.records.items c.in-Err-made_in.fault c.in-Err-made_in.ensures.err
    (g.K.Keeper.records c.args.keeper.now) (g.K.Keeper.records c.read_all.new.keeper) c.in-Ok.ensures.records c.in-Ok.ensures.all

pub returns-in-Err-clause-records : goal.returns-in-Err-clause-records
returns-in-Err-clause-records g c = refused c.args.name.now c.args.now c.in-Err.fault c.fault_of.result c.fault_of.ensures
    (g.K.Keeper.records c.args.keeper.now) (g.K.Keeper.records c.read_all.new.keeper) c.in-Err.ensures.records c.in-Err.ensures.fault
