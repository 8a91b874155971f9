-- Where a key stands in a list whose keys rise (this profile).
use Rattle.std.specs.Prelude.{◌≡◌, ℕ, ◌<◌, ◌≤◌, true, List, length, slice_index_or}
use Rattle.std.specs.List.{AllWithin}
use Rattle.volume_spec.specs.Order.{stands_before}

-- the element at place i has the key
pub record IsPlaceOf {A : Type 0} (key : A → List ℕ) (k : List ℕ) (list : List A) (i : ℕ) : Type 0 where
  pub within : i < length list
  pub same : (d : A) → key (slice_index_or list i d) ≡ k

-- the key would go to place i: the keys before it are lower, and those from it on are higher
pub record IsGapFor {A : Type 0} (key : A → List ℕ) (k : List ℕ) (list : List A) (i : ℕ) : Type 0 where
  pub within : i ≤ length list
  pub lower : AllWithin (λ x. stands_before (key x) k ≡ true) list 0 i
  pub higher : AllWithin (λ x. stands_before k (key x) ≡ true) list i (length list)
