use Rattle.std.proofs.Common.{subst}
use Rattle.volume_keeper_records.specs.Loaded.{IsLoadedRows}
use Rattle.volume_keeper.proofs.OfLoading.Versions.{made_of_records, rows_either}
use Rattle.volume_keeper.proofs.loading.loading.said_made.Goals as goal

pub made_of-requires : goal.made_of-requires
made_of-requires c =
    let good = subst (IsLoadedRows c.args.name.now c.args.records.items) c.in-Ok-Good.field-0-is c.in-Ok-Good.ensures in
    (good.1, rows_either c.args.name.now c.args.records.items c.in-Ok-Good.rows.items good.1 good.2)

pub returns-in-Ok-clause-ok : goal.returns-in-Ok-clause-ok
returns-in-Ok-clause-ok c =
    let good = subst (IsLoadedRows c.args.name.now c.args.records.items) c.in-Ok-Good.field-0-is c.in-Ok-Good.ensures in
    made_of_records c.args.name.now c.args.records.items c.in-Ok-Good.rows.items good.1 good.2 c.args.now c.in-Ok.made.changes.items c.in-Ok.made.whole.state c.requires.some good.0
    (c.in-Ok.ensures good.1 (rows_either c.args.name.now c.args.records.items c.in-Ok-Good.rows.items good.1 good.2))
