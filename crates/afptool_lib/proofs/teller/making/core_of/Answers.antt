use Rattle.afptool_lib.proofs.OfTeller.FreshVolumes.{new-world, new-sure, not-load}
use Rattle.record_keeper.specs.Records.{steadily}
use Rattle.afptool_lib.proofs.teller.making.core_of.Goals as goal

pub returns-in-Ok-clause-world : goal.returns-in-Ok-clause-world
returns-in-Ok-clause-world g c = new-world (steadily g.K.Keeper.steady g.K.Keeper.records) g.K.Keeper.sure g.K.Keeper.faults c.args.house.now c.args.now c.in_ok-keepers.keepers.items c.in-Ok.core c.in-Ok.ensures.start c.in_ok-keepers.ensures.new

pub returns-in-Ok-clause-sure : goal.returns-in-Ok-clause-sure
returns-in-Ok-clause-sure g c = new-sure (steadily g.K.Keeper.steady g.K.Keeper.records) g.K.Keeper.sure g.K.Keeper.faults c.args.house.now c.args.now c.in_ok-keepers.keepers.items c.in-Ok.core c.in-Ok.ensures.start c.in_ok-keepers.ensures.new

pub unreachable-requires-in-Load : goal.unreachable-requires-in-Load
unreachable-requires-in-Load g c =
    not-load (steadily g.K.Keeper.steady g.K.Keeper.records) g.K.Keeper.sure g.K.Keeper.faults c.args.now c.args.house.now.volumes c.in_ok-keepers.keepers.items c.in-Err.fault c.in-Err.ensures.fault c.in_ok-keepers.ensures.new
    c.in-Load.index c.in-Load.fault c.in-Load.is
