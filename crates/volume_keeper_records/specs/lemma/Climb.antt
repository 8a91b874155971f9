-- Parents that lead to the root, by places: what the code does, for private contracts.
use Rattle.std.specs.Prelude.{◌≡◌, ℕ, zero, suc, ◌+◌, ◌<◌, ◌==◌, Bool, ◌&&◌, ◌||◌, if◌then◌else◌, List, [], ◌∷◌, ◌++◌, map, length, slice_index}
use Rattle.std.specs.List.{list_any, position_or_len}
use Rattle.volume_keeper_records.specs.declared.tree.Place.{Place}
use Rattle.volume_spec.specs.VolumeState.{root_id}

-- whether this id is the root's, or a directory's whose parents lead to the root through directories in so many steps
abbrev pub climbs_to_root : List Place → ℕ → ℕ → Bool
climbs_to_root nodes zero id = id == root_id
climbs_to_root nodes (suc steps) id = (id == root_id) || list_any (λ node. (node.id == id) && (node.is_directory && climbs_to_root nodes steps node.parent)) nodes

abbrev pub id_of : Place → ℕ
id_of node = node.id

-- the place of an id, or the length
abbrev pub place_in : List ℕ → ℕ → ℕ
place_in ids id = position_or_len (λ x. x == id) ids

-- where a climb stands: at a place, behind the last one where there is none, and behind that at the root's id
abbrev pub stands : List ℕ → ℕ → ℕ
stands ids id = if id == root_id then length ids + 1 else place_in ids id

abbrev pub next_of : List ℕ → Place → ℕ
next_of ids node = if node.is_directory then stands ids node.parent else length ids

-- one step from each place
abbrev pub steps_of : List ℕ → List Place → List ℕ
steps_of ids nodes = map (next_of ids) nodes ++ length ids ∷ (length ids + 1) ∷ []

-- so many steps from a place
abbrev pub climbed : List ℕ → ℕ → ℕ → ℕ
climbed steps zero place = place
climbed steps (suc count) place = climbed steps count (slice_index steps place)

abbrev pub through : List ℕ → List ℕ → List ℕ
through first second = map (λ place. slice_index second place) first

-- of a climb of so many steps, the steps that are left, each as long as `up` says, lead from where `ends` is
pub record Climbs (steps : List ℕ) (count : ℕ) (up ends : List ℕ) (left : ℕ) : Type 0 where
  pub up_length : length up ≡ length steps
  pub ends_length : length ends ≡ length steps
  pub up_in : (place : ℕ) → place < length steps → slice_index up place < length steps
  pub ends_in : (place : ℕ) → place < length steps → slice_index ends place < length steps
  pub kept : (place : ℕ) → place < length steps → climbed up left (slice_index ends place) ≡ climbed steps count place

-- where the climb from each place ends tells which ids lead to the root
pub record EndsAt (nodes : List Place) (ids ends : List ℕ) : Type 0 where
  pub there : (id : ℕ) → stands ids id < length ends
  pub leads : (id : ℕ) → climbs_to_root nodes (length nodes) id ≡ (slice_index ends (stands ids id) == length ids + 1)
