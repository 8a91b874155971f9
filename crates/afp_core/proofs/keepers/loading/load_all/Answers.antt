use Rattle.std.proofs.Common.{ap, subst, length, List, ℕ, ◌∙◌, sym}
use Rattle.std.specs.Prelude.{IfErr, IfOk}
use Rattle.afp_core.specs.keepers.Loads.{IsCoreFault, LoadEach}
use Rattle.afp_core.proofs.OfKeepers.LoadLemmas.{volumes-named}
use Rattle.record_keeper.specs.Records.{steadily}
use Rattle.afp_core.proofs.keepers.loading.load_all.Goals as goal

pub load_named-requires-clause-named : goal.load_named-requires-clause-named
load_named-requires-clause-named g c = volumes-named c.args.house.now c.volumes-names.result.now c.volumes-names.ensures.value c.volumes-names.ensures.sound

pub returns-clause-loaded : goal.returns-clause-loaded
returns-clause-loaded g c =
    subst (λ (l : List (List ℕ)). IfOk c.load_named.result (λ kept. LoadEach (steadily g.K.Keeper.steady g.K.Keeper.records) g.K.Keeper.sure g.K.Keeper.faults c.args.now l c.args.keepers.items kept.items)) c.volumes-names.ensures.value c.load_named.ensures.loaded

pub returns-clause-fault : goal.returns-clause-fault
returns-clause-fault g c =
    subst (λ (l : List (List ℕ)). IfErr c.load_named.result (λ fault. IsCoreFault (steadily g.K.Keeper.steady g.K.Keeper.records) g.K.Keeper.sure g.K.Keeper.faults c.args.now l c.args.keepers.items fault)) c.volumes-names.ensures.value c.load_named.ensures.fault
