-- The keepers of a world's volumes: each holds the volume at its place (this profile).
use Rattle.std.specs.Prelude.{◌≡◌, ℕ, Bool, List, [], ◌∷◌, map, Option, IfSome}
use Rattle.record_keeper.specs.Records.{Records}
use Rattle.volume_keeper_records.specs.Image.{kept_image}
use Rattle.volume_spec.specs.VolumeState.{VolumeState}

-- A keeper for each volume, in order: where it tells its records, they are that volume's image, and no others.
abbrev pub HoldEach : {K : Type 0} → (K → Option Records) → List K → List VolumeState → Type 0
HoldEach records [] [] = Unit {0}
HoldEach records (keeper ∷ keepers) (volume ∷ volumes) = IfSome (records keeper) (λ held. held ≡ kept_image volume) × HoldEach records keepers volumes
HoldEach records keepers volumes = ⊥

-- There are keepers that hold these volumes, with these counts of faults, which are so sure.
pub record AreHeld {K : Type 0} (records : K → Option Records) (sure : K → Bool) (faults : K → ℕ) (volumes : List VolumeState) (counts : List ℕ) (certain : List Bool) : Type 0 where
  pub keepers : List K
  pub hold : HoldEach records keepers volumes
  pub counted : map faults keepers ≡ counts
  pub so_sure : map sure keepers ≡ certain
