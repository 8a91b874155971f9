-- What is given of a list's entries.
use Rattle.std.specs.Prelude.{◌≡◌, ◌≢◌, ℕ, List, Option, Some, None, Result, Ok, Err}
use Rattle.afp_names.specs.Name.{name_fault}
use Rattle.afp_mirror_walk.specs.declared.walk.ends.MirrorEnd.{MirrorEnd}
use Rattle.afp_mirror_walk.specs.declared.walk.ends.MirrorEnd.TheVariants as mirror_ends
use Rattle.afp_mirror_walk.specs.declared.walk.ends.Side.{Side}
use Rattle.afp_mirror_walk.specs.declared.walk.ends.Side.TheVariants.{From}
use Rattle.afp_mirror_walk.specs.declared.walk.standing.Found.{Found}

-- the bytes are a name, or none; or there is no memory
abbrev pub GivesName : List ℕ → Result (List ℕ) MirrorEnd → Type 0
GivesName bytes (Ok name) = (name_fault bytes ≡ None) × (name ≡ bytes)
GivesName bytes (Err mirror_ends.Memory) = Unit {0}
GivesName bytes (Err (mirror_ends.Bad side)) = (side ≡ From) × (name_fault bytes ≢ None)
GivesName bytes (Err (mirror_ends.Done lines)) = ⊥
GivesName bytes (Err (mirror_ends.Refused side c node)) = ⊥
GivesName bytes (Err (mirror_ends.NotEmpty node)) = ⊥
GivesName bytes (Err mirror_ends.TooMany) = ⊥
GivesName bytes (Err (mirror_ends.Changed node place)) = ⊥
GivesName bytes (Err (mirror_ends.Failed side)) = ⊥

-- the node of an entry, or none
abbrev pub GivesFound : Option Found → Result Found MirrorEnd → Type 0
GivesFound told (Ok f) = told ≡ Some f
GivesFound told (Err mirror_ends.Memory) = Unit {0}
GivesFound told (Err (mirror_ends.Bad side)) = (side ≡ From) × (told ≡ None)
GivesFound told (Err (mirror_ends.Done lines)) = ⊥
GivesFound told (Err (mirror_ends.Refused side c node)) = ⊥
GivesFound told (Err (mirror_ends.NotEmpty node)) = ⊥
GivesFound told (Err mirror_ends.TooMany) = ⊥
GivesFound told (Err (mirror_ends.Changed node place)) = ⊥
GivesFound told (Err (mirror_ends.Failed side)) = ⊥
