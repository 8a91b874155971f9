use Rattle.std.proofs.Common.{List, sym, subst}
use Rattle.afptool_lib.specs.teller.Keepers.{AreNew}
use Rattle.afptool_lib.proofs.OfTeller.FreshVolumes.{some-new}
use Rattle.record_keeper.specs.Records.{steadily}
use Rattle.afptool_lib.proofs.teller.new_keepers.NewKeepers.first.Goals as goal

pub returns-clause-new : goal.returns-clause-new
returns-clause-new g c =
    subst (λ (l : List _). AreNew (steadily g.K.Keeper.steady g.K.Keeper.records) g.K.Keeper.sure l) (sym c.truncate.ensures.items)
    (some-new (steadily g.K.Keeper.steady g.K.Keeper.records) g.K.Keeper.sure c.args.count c.self.inside.keepers.items c.self.invariant)
