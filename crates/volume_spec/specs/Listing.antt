-- Listing a directory (AFP Reference, "Enumerate"; the order is this profile's).
use Rattle.std.specs.Prelude.{ℕ, ◌+◌, ◌-◌, ◌==◌, ◌&&◌, Bool, List, [], ◌∷◌, ◌++◌, take, drop}
use Rattle.std.specs.List.{filter, list_any}
use Rattle.afp_names.specs.Name.{name_key}
use Rattle.volume_spec.specs.Order.{in_order}
use Rattle.volume_spec.specs.VolumeState.{Row}

-- what a row is sought and listed by
abbrev pub row_key : Row → List ℕ
row_key row = name_key row.name

-- the children of a directory, in any order
unfoldable pub children : List Row → ℕ → List Row
children rows dir = filter (λ row. row.parent == dir) rows

-- the children of a directory, in the order of their names' keys
unfoldable pub listed : List Row → ℕ → List Row
listed rows dir = in_order row_key (children rows dir)

-- whether a directory has a child of this id
unfoldable pub is_child : List Row → ℕ → ℕ → Bool
is_child rows dir id = list_any (λ row. (row.id == id) && (row.parent == dir)) rows

-- so many entries of a list from the one at a start, which counts from 1
abbrev pub page : {A : Type 0} → List A → ℕ → ℕ → List A
page list start count = take count (drop (start - 1) list)

-- pages of these counts, each starting behind the one before it
abbrev pub pages : {A : Type 0} → List A → ℕ → List ℕ → List A
pages list start [] = []
pages list start (count ∷ counts) = page list start count ++ pages list (start + count) counts
