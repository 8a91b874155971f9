-- Volumes of keepers that nobody has used are new, and their keepers never fail.
use Rattle.std.proofs.Common.{◌≡◌, ap, refl, sym, ◌∙◌, subst, ℕ, ◌<◌, zero, suc, Bool, true, List, [], ◌∷◌, ◌++◌, length, take, Some, arith}
use Rattle.std.specs.FinMap as map
use Rattle.std.specs.FinMap.{len-empty, len-entries}
use Rattle.std.specs.Prelude.{map as mapped, slice_get, Option, IfSome}
use Rattle.std.specs.Cmp.Lexicographic.{slice_cmp}
use Rattle.std.specs.Ordering.{nat_cmp}
use Rattle.std.proofs.lemmas.List.{nil_from_length}
use Rattle.afp_core.specs.keepers.Loads.{LoadEach, IsCoreFault, IsLoadFaultOf, LoadsStopAt}
use Rattle.afp_core.specs.turns.Loads.{IsLoadedServer}
use Rattle.afp_core.specs.turns.ServerState.{ServerState}
use Rattle.afp_core.specs.turns.Sureness.{AreSure}
use Rattle.afp_core_state.specs.KeptWorld.{volumes_of}
use Rattle.afp_core.specs.declared.keepers.core_fault.CoreFault.{CoreFault}
use Rattle.afp_core.specs.declared.keepers.core_fault.CoreFault.TheVariants as cores
use Rattle.afp_serial.specs.Household.{Household}
use Rattle.afp_serial.specs.World.{fresh_world, start_world}
use Rattle.volume_spec.specs.VolumeState.{VolumeState, fresh_volume}
use Rattle.afptool_lib.specs.teller.Keepers.{AreNew, IsNew}
use Rattle.volume_keeper.specs.kept.Kept.{KeptState}
use Rattle.record_keeper.specs.Records.{Records}
use Rattle.volume_keeper.specs.loading.Loading.{IsFaultIn}
use Rattle.volume_keeper.specs.declared.loading.loading.LoadFault.{LoadFault}
use Rattle.volume_keeper.specs.declared.loading.loading.LoadFault.TheVariants as loads
use Rattle.volume_keeper_records.specs.FirstBad.{first_bad_record}
use Rattle.volume_keeper_records.specs.Image.{records_in}

pub one-more : {K : Type 0} (records : K → Option Records) (sure : K → Bool) (keepers : List K) (k : K)
    → AreNew records sure keepers → IsNew (records k) (sure k) → AreNew records sure (keepers ++ k ∷ [])
one-more records sure [] k new is = (is, tt)
one-more records sure (first ∷ keepers) k new is = (new.0, one-more records sure keepers k new.1 is)

pub some-new : {K : Type 0} (records : K → Option Records) (sure : K → Bool) (n : ℕ) (keepers : List K) → AreNew records sure keepers → AreNew records sure (take n keepers)
some-new records sure zero keepers new = tt
some-new records sure (suc n) [] new = tt
some-new records sure (suc n) (k ∷ keepers) new = (new.0, some-new records sure n keepers new.1)

one-new : {K : Type 0} (records : K → Option Records) (sure : K → Bool) (keepers : List K) (index : ℕ) (k : K)
    → AreNew records sure keepers → slice_get keepers index ≡ Some k → IsNew (records k) (sure k)
one-new records sure [] index k new at = absurd (cc at)
one-new records sure (first ∷ keepers) zero k new at =
    let same : first ≡ k = cc at in
    subst (λ (x : _). IsNew (records x) (sure x)) same new.0
one-new records sure (first ∷ keepers) (suc index) k new at = one-new records sure keepers index k new.1 at

-- the volumes

new-volumes : {K : Type 0} (records : K → Option Records) (sure : K → Bool) (faults : K → ℕ) (now : ℕ) (names : List (List ℕ)) (keepers : List K) (kept : List KeptState)
    → LoadEach records sure faults now names keepers kept → AreNew records sure keepers → volumes_of kept ≡ mapped (λ name. fresh_volume name now) names
new-volumes records sure faults now [] [] [] loaded new = refl
new-volumes records sure faults now [] [] (one ∷ kept) loaded new = absurd loaded
new-volumes records sure faults now [] (k ∷ keepers) kept loaded new = absurd loaded
new-volumes records sure faults now (name ∷ names) [] kept loaded new = absurd loaded
new-volumes records sure faults now (name ∷ names) (k ∷ keepers) [] loaded new = absurd loaded
new-volumes records sure faults now (name ∷ names) (k ∷ keepers) (one ∷ kept) loaded new =
    let told : IfSome (Some map.empty) (λ (held : Records). held ≡ map.empty → one.state ≡ fresh_volume name now) =
    subst (λ (o : Option Records). IfSome o (λ (held : Records). held ≡ map.empty → one.state ≡ fresh_volume name now)) new.0.empty loaded.0.0.fresh in
    let first : one.state ≡ fresh_volume name now = told refl in
    let rest : volumes_of kept ≡ mapped (λ n. fresh_volume n now) names = new-volumes records sure faults now names keepers kept loaded.1 new.1 in
    ap (λ (v : VolumeState). v ∷ volumes_of kept) first ∙ ap (λ (l : List VolumeState). fresh_volume name now ∷ l) rest

all-sure : {K : Type 0} (records : K → Option Records) (sure : K → Bool) (faults : K → ℕ) (now : ℕ) (names : List (List ℕ)) (keepers : List K) (kept : List KeptState)
    → LoadEach records sure faults now names keepers kept → AreNew records sure keepers
    → (index : ℕ) → index < length (mapped (λ (k : KeptState). k.faults) kept) → slice_get (mapped (λ (k : KeptState). k.sure) kept) index ≡ Some true
all-sure records sure faults now [] [] [] loaded new index h = absurd (omega (arith, h))
all-sure records sure faults now [] [] (one ∷ kept) loaded new index h = absurd loaded
all-sure records sure faults now [] (k ∷ keepers) kept loaded new index h = absurd loaded
all-sure records sure faults now (name ∷ names) [] kept loaded new index h = absurd loaded
all-sure records sure faults now (name ∷ names) (k ∷ keepers) [] loaded new index h = absurd loaded
all-sure records sure faults now (name ∷ names) (k ∷ keepers) (one ∷ kept) loaded new zero h = ap Some (loaded.0.0.sure_is ∙ new.0.never_fails)
all-sure records sure faults now (name ∷ names) (k ∷ keepers) (one ∷ kept) loaded new (suc index) h = all-sure records sure faults now names keepers kept loaded.1 new.1 index (omega (arith, h))

-- a server over them

pub new-world : {K : Type 0} (records : K → Option Records) (sure : K → Bool) (faults : K → ℕ) (house : Household) (now : ℕ) (keepers : List K) (s : ServerState)
    → IsLoadedServer records sure faults house now keepers s → AreNew records sure keepers → s.world ≡ fresh_world house now
new-world records sure faults house now keepers s is new =
    ap (λ (x : ServerState). x.world) is.start ∙ ap (λ (v : List VolumeState). start_world house now v) (new-volumes records sure faults now house.volumes keepers is.kept is.loaded new)

pub new-sure : {K : Type 0} (records : K → Option Records) (sure : K → Bool) (faults : K → ℕ) (house : Household) (now : ℕ) (keepers : List K) (s : ServerState)
    → IsLoadedServer records sure faults house now keepers s → AreNew records sure keepers → AreSure s
new-sure records sure faults house now keepers s is new = subst (λ (x : ServerState). AreSure x) (sym is.start) (all-sure records sure faults now house.volumes keepers is.kept is.loaded new)

-- there is one, or no memory

none-held : records_in map.empty ≡ []
none-held =
    let size : length (map.entries {X = List ℕ} {R = slice_cmp nat_cmp} map.empty) ≡ 0 = sym (len-entries map.empty) ∙ len-empty (slice_cmp nat_cmp) (List ℕ) in
    ap (λ (es : List (List ℕ × List ℕ)). mapped (λ e. record { key = e.0; value = e.1 }) es) (nil_from_length _ size)

loads-one : (name : List ℕ) (records : Option Records) (sure : Bool) (fault : LoadFault) → IsNew records sure → IsLoadFaultOf name records sure fault → ⊥
loads-one name records sure (loads.BadRecord key reason) new cause =
    let told : IsFaultIn name (records_in map.empty) (loads.BadRecord key reason) =
    subst (λ (o : Option Records). IfSome o (λ held. IsFaultIn name (records_in held) (loads.BadRecord key reason))) new.empty cause in
    cc (ap (first_bad_record name) (sym none-held) ∙ told)
loads-one name records sure loads.Failed new cause = cc (sym new.never_fails ∙ cause)
loads-one name records sure loads.Memory new cause = cause

pub not-load : {K : Type 0} (records : K → Option Records) (sure : K → Bool) (faults : K → ℕ) (now : ℕ) (names : List (List ℕ)) (keepers : List K) (fault : CoreFault)
    → IsCoreFault records sure faults now names keepers fault → AreNew records sure keepers → (index : ℕ) (why : LoadFault) → fault ≡ cores.Load index why → ⊥
not-load records sure faults now names keepers cores.Count is new index why e = cc e
not-load records sure faults now names keepers (cores.Load at_index fault) is new index why e =
    let stops : LoadsStopAt records sure faults now names keepers at_index fault = is.1 in
    loads-one stops.name (records stops.keeper) (sure stops.keeper) fault (one-new records sure keepers at_index stops.keeper new stops.kept_by) stops.cause
not-load records sure faults now names keepers cores.Memory is new index why e = cc e
