-- Lists that rise by key, with more elements; no public contract cites it.
use Rattle.std.specs.Prelude.{◌≡◌, ℕ, Bool, true, false, List, [], ◌∷◌, ◌++◌, Option, Some, None}
use Rattle.std.specs.List.{list_any}
use Rattle.volume_spec.specs.Order.{rises}
use Rattle.volume_keeper_records.specs.Records.{flag_byte}
use Rattle.volume_changes.specs.declared.records.touched.ForkPlace.{ForkPlace}
use Rattle.volume_changes.specs.declared.records.touched.Mapping.{Mapping}

-- the keys by which touched lists rise
abbrev pub id_key : ℕ → List ℕ
id_key id = id ∷ []

abbrev pub fork_key : ForkPlace → List ℕ
fork_key place = place.node ∷ flag_byte place.resource ∷ []

abbrev pub icon_key : List ℕ → List ℕ
icon_key key = key

abbrev pub mapping_key : Mapping → List ℕ
mapping_key m = m.creator ++ m.node ∷ []

-- a list with these elements too: its keys rise, and what is told of no element of it, key by key, is told of none of these and of none of the old ones
pub record IsWith {A : Type 0} (key : A → List ℕ) (more old new : List A) : Type 0 where
  pub rising : rises key new ≡ true
  pub all : (p : A → Bool) → ((y z : A) → key y ≡ key z → p y ≡ p z) → list_any p new ≡ false → (list_any p more ≡ false) × (list_any p old ≡ false)

-- nothing, or one element
abbrev pub one_of : {A : Type 0} → Option A → List A
one_of (Some x) = x ∷ []
one_of None = []
