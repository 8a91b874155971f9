-- The volumes of a house, loaded from their keepers (this profile).
use Rattle.std.specs.Prelude.{◌≡◌, ◌≢◌, ℕ, Bool, false, List, [], ◌∷◌, length, take, Option, Some, IfSome, slice_get}
use Rattle.afp_core.specs.declared.keepers.core_fault.CoreFault.{CoreFault}
use Rattle.afp_core.specs.declared.keepers.core_fault.CoreFault.TheVariants.{Count, Load, Memory}
use Rattle.volume_keeper.specs.kept.Kept.{KeptState}
use Rattle.volume_keeper.specs.kept.Loading.{IsLoadedFrom, IsLoadedVolume}
use Rattle.volume_keeper.specs.loading.Loading.{IsFaultIn}
use Rattle.volume_keeper.specs.declared.loading.loading.LoadFault.{LoadFault}
use Rattle.volume_keeper.specs.declared.loading.loading.LoadFault.TheVariants as load
use Rattle.record_keeper.specs.Records.{Records}
use Rattle.volume_keeper_records.specs.Image.{records_in}

-- a volume was loaded under a name from a keeper: it is the one that the keeper's records say, where they are told
abbrev pub LoadsOne : List ℕ → ℕ → Option Records → Bool → ℕ → KeptState → Type 0
LoadsOne name now records sure faults one = IsLoadedVolume name now records sure faults one × IfSome records (λ held. IsLoadedFrom name held one.state)

-- the volumes are those that were loaded from the keepers, each under its name
abbrev pub LoadEach : {K : Type 0} → (K → Option Records) → (K → Bool) → (K → ℕ) → ℕ → List (List ℕ) → List K → List KeptState → Type 0
LoadEach records sure faults now [] [] [] = Unit {0}
LoadEach records sure faults now (name ∷ names) (keeper ∷ keepers) (one ∷ kept) =
    LoadsOne name now (records keeper) (sure keeper) (faults keeper) one × LoadEach records sure faults now names keepers kept
LoadEach records sure faults now names keepers kept = ⊥

-- Why a load under a name gave no volume, of a keeper with these records, which is sure or not: where the records are told, the first bad one of
-- them, for its reason; or the keeper failed. Want of memory is told otherwise.
abbrev pub IsLoadFaultOf : List ℕ → Option Records → Bool → LoadFault → Type 0
IsLoadFaultOf name records sure (load.BadRecord key reason) = IfSome records (λ held. IsFaultIn name (records_in held) (load.BadRecord key reason))
IsLoadFaultOf name records sure load.Failed = sure ≡ false
IsLoadFaultOf name records sure load.Memory = ⊥

-- the load at an index is the first that gave no volume
pub record LoadsStopAt {K : Type 0} (records : K → Option Records) (sure : K → Bool) (faults : K → ℕ) (now : ℕ) (names : List (List ℕ)) (keepers : List K) (index : ℕ) (fault : LoadFault) : Type 0 where
  pub kept : List KeptState
  pub before : LoadEach records sure faults now (take index names) (take index keepers) kept
  pub name : List ℕ
  pub named : slice_get names index ≡ Some name
  pub keeper : K
  pub kept_by : slice_get keepers index ≡ Some keeper
  pub cause : IsLoadFaultOf name (records keeper) (sure keeper) fault

-- why there is no core: the numbers differ, the first load that gave no volume, or there is no memory
abbrev pub IsCoreFault : {K : Type 0} → (K → Option Records) → (K → Bool) → (K → ℕ) → ℕ → List (List ℕ) → List K → CoreFault → Type 0
IsCoreFault records sure faults now names keepers Count = length keepers ≢ length names
IsCoreFault records sure faults now names keepers (Load index fault) = (length keepers ≡ length names) × LoadsStopAt records sure faults now names keepers index fault
IsCoreFault records sure faults now names keepers Memory = length keepers ≡ length names
