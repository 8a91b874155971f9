use Rattle.std.proofs.Common.{◌≡◌, ◌∙◌, ap, map, sym, subst, None, true, List, ℕ}
use Rattle.afp_serial.proofs.FreshWorld.{start-sound}
use Rattle.afp_serial.specs.Household.{Household}
use Rattle.afp_serial.specs.HouseFault.{house_fault}
use Rattle.afp_serial.specs.Ranges.{is_typed_house}
use Rattle.afp_serial.specs.Sound.{IsSound}
use Rattle.afp_core.specs.keepers.Loads.{LoadEach}
use Rattle.afp_core.specs.turns.ServerState.{ServerState, start_server}
use Rattle.afp_core_state.specs.KeptWorld.{KeptWorld, volumes_of}
use Rattle.record_keeper.specs.Settling.{settled_in}
use Rattle.volume_keeper.specs.kept.Kept.{KeptState}
use Rattle.afp_core.proofs.OfKeepers.LoadLemmas.{loaded-serve}
use Rattle.record_keeper.specs.Records.{steadily}
use Rattle.afp_core.proofs.turns.turn.Core.new.Goals as goal

pub invariant_of-result : goal.invariant_of-result
invariant_of-result g c =
    let house : Household = c.in-Ok.house in
    let none : house_fault house ≡ None = ap house_fault c.in-Ok.ensures.value ∙ c.in-Ok.ensures.faultless in
    let typed : is_typed_house house ≡ true = ap is_typed_house c.in-Ok.ensures.value ∙ c.in-Ok.ensures.typed in
    let names = ap (λ (h : Household). h.volumes) (sym c.in-Ok.ensures.value) in
    let loads = subst (λ (l : List (List ℕ)). LoadEach (steadily g.K.Keeper.steady g.K.Keeper.records) g.K.Keeper.sure g.K.Keeper.faults c.args.now l c.args.keepers.items c.in_ok-kept.kept.items) names c.in_ok-kept.ensures.loaded in
    subst (λ (k : KeptWorld). IsSound k.world) (sym c.in-Ok-new.ensures)
    (start-sound house c.args.now (volumes_of c.in_ok-kept.kept.items) none typed c.moment_in_range.ensures
    (loaded-serve (steadily g.K.Keeper.steady g.K.Keeper.records) g.K.Keeper.sure g.K.Keeper.faults c.args.now house c.args.keepers.items c.in_ok-kept.kept.items loads))

pub returns-in-Ok-new-clause-start : goal.returns-in-Ok-new-clause-start
returns-in-Ok-new-clause-start g c =
    let kept : List KeptState = c.in_ok-kept.kept.items in
    let shown : KeptWorld → ServerState = λ k. record { world = k.world; entries = 0; opened = 0; faults = k.faults; sure = k.sure; settled = k.settled } in
    record {
      kept = kept;
      loaded = c.in_ok-kept.ensures.loaded;
      start = ap shown c.in-Ok-new.ensures
          ∙ ap (λ (h : Household). start_server h c.args.now (volumes_of kept) (map (λ (k : KeptState). k.faults) kept) (map (λ (k : KeptState). k.sure) kept) (map (λ (k : KeptState). settled_in k.settles) kept)) c.in-Ok.ensures.value;
    }
