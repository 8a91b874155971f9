-- What the code and the proofs go by beside Holding; no public contract cites it.
use Rattle.std.specs.Prelude.{◌≡◌, ℕ, Bool, List, [], ◌∷◌, Option, IfSome}
use Rattle.record_keeper.specs.Records.{Records}
use Rattle.volume_keeper.specs.kept.Kept.{KeptState}
use Rattle.volume_keeper_records.specs.Image.{kept_image}

-- the keeper stands beside this volume
pub record IsBeside {K : Type 0} (records : K → Option Records) (sure : K → Bool) (faults : K → ℕ) (keeper : K) (one : KeptState) : Type 0 where
  pub image : IfSome (records keeper) (λ held. held ≡ kept_image one.state)
  pub counted : faults keeper ≡ one.faults
  pub so_sure : sure keeper ≡ one.sure

abbrev pub AreBeside : {K : Type 0} → (K → Option Records) → (K → Bool) → (K → ℕ) → List K → List KeptState → Type 0
AreBeside records sure faults [] [] = Unit {0}
AreBeside records sure faults (keeper ∷ keepers) (one ∷ kept) = IsBeside records sure faults keeper one × AreBeside records sure faults keepers kept
AreBeside records sure faults keepers kept = ⊥

-- volumes beside their keepers
pub record StandBeside {K : Type 0} (records : K → Option Records) (sure : K → Bool) (faults : K → ℕ) (kept : List KeptState) : Type 0 where
  pub keepers : List K
  pub beside : AreBeside records sure faults keepers kept
