-- What is kept of a volume's nodes (AFP Reference, "Catalog node IDs"; the form is this profile's).
use Rattle.std.specs.Prelude.{◌≡◌, ℕ, ◌<◌, nat_lt, List, [], ◌∷◌, length, slice_get, Option, None, Some, if◌then◌else◌}
use Rattle.volume_spec.specs.VolumeState.{Row, privileges_of}
use Rattle.volume_spec.specs.Walk.{row_at}
use Rattle.node_rows.specs.declared.node.Marks.{Marks}

-- a volume's rows, with no bytes in their forks; the next id; and room for so many rows more
pub record RowsValue : Type 0 where
  pub rows : List Row
  pub next_id : ℕ
  pub spare : ℕ

-- rows with one more, before the first whose id is higher
abbrev pub admitted : Row → List Row → List Row
admitted row [] = row ∷ []
admitted row (r ∷ rows) = if nat_lt row.id r.id then row ∷ r ∷ rows else r ∷ admitted row rows

-- a row with other marks
abbrev pub marked : Marks → Row → Row
marked marks row = record row {
  attributes = marks.attributes;
  created = marks.created;
  modified = marks.modified;
  backup = marks.backup;
  finder = marks.finder;
  filed = marks.filed;
  privileges = privileges_of marks.owner marks.group marks.rights;
}

-- the place among rows of the one of this id, if there is one
abbrev pub IsPlaceOf : List Row → ℕ → Option ℕ → Type 0
IsPlaceOf rows id None = row_at rows id ≡ None
IsPlaceOf rows id (Some i) = (i < length rows) × (row_at rows id ≡ slice_get rows i)
