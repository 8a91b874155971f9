-- Files alone or directories alone of a list of nodes (AFP Reference, "FPEnumerate"; the form is this profile's).
use Rattle.std.specs.Prelude.{◌≡◌, ℕ, ◌-◌, ◌≤◌, Bool, true, not, List, length, map, drop, take, slice_get, Option, None, Some, if◌then◌else◌}
use Rattle.std.specs.List.{filter}
use Rattle.volume_spec.specs.VolumeState.{Row}

-- whether a node is of the kind that is asked: a file, or else a directory
abbrev pub is_of_kind : Bool → Row → Bool
is_of_kind files row = if files then not row.dir else row.dir

-- the same of each node of a list
abbrev pub are_of_kind : Bool → List Row → List Bool
are_of_kind files rows = map (is_of_kind files) rows

-- how many of these are true
abbrev pub passing : List Bool → ℕ
passing tests = length (filter (λ test. test) tests)

-- The place, from another one on, of a true one that stands behind so many others; none where no more are there.
abbrev pub IsPlaceBehind : List Bool → ℕ → ℕ → Option ℕ → Type 0
IsPlaceBehind tests from skip None = passing (drop from tests) ≤ skip
IsPlaceBehind tests from skip (Some place) = (from ≤ place) × (passing (take (place - from) (drop from tests)) ≡ skip) × (slice_get tests place ≡ Some true)
