-- What is touched, in the order of its keys (this profile).
use Rattle.std.specs.Prelude.{◌≡◌, ℕ, ◌==◌, Bool, true, ◌&&◌, List, [], ◌∷◌, ◌++◌, length}
use Rattle.std.specs.List.{list_all}
use Rattle.volume_spec.specs.Order.{rises}
use Rattle.volume_spec.specs.SoundVolume.{code_size}
use Rattle.volume_spec.specs.TypedVolume.{is_long}
use Rattle.volume_keeper_records.specs.Records.{flag_byte}
use Rattle.volume_changes.specs.declared.records.touched.ForkPlace.{ForkPlace}
use Rattle.volume_changes.specs.declared.records.touched.Mapping.{Mapping}
use Rattle.volume_changes.specs.records.Touched.{Touched}

-- each list rises: nodes and comments by id, forks by their node with the data fork first, icons by the bytes of their keys, mappings by creator and node
pub record AreRising (t : Touched) : Type 0 where
  pub nodes : rises (λ (id : ℕ). id ∷ []) t.nodes ≡ true
  pub forks : rises (λ (p : ForkPlace). p.node ∷ flag_byte p.resource ∷ []) t.forks ≡ true
  pub comments : rises (λ (id : ℕ). id ∷ []) t.comments ≡ true
  pub icons : rises (λ (key : List ℕ). key) t.icons ≡ true
  pub appls : rises (λ (m : Mapping). m.creator ++ m.node ∷ []) t.appls ≡ true

-- a creator of four bytes and an id that is a number of four
abbrev pub is_fit_mapping : Mapping → Bool
is_fit_mapping m = is_long m.node && (length m.creator == code_size)

-- ids are numbers of four bytes, and creators have four
pub record AreInRange (t : Touched) : Type 0 where
  pub nodes : list_all is_long t.nodes ≡ true
  pub forks : list_all (λ (p : ForkPlace). is_long p.node) t.forks ≡ true
  pub comments : list_all is_long t.comments ≡ true
  pub appls : list_all is_fit_mapping t.appls ≡ true
