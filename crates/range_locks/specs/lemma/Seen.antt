-- What a look among the rows of a fork finds (this profile).
use Rattle.std.specs.Prelude.{◌≡◌, ℕ, ◌==◌, ◌≤◌, ◌<◌, nat_lt, true, false, not, ◌&&◌, List, length, slice_index_or, Option, Some, None}
use Rattle.std.specs.List.{list_any}
use Rattle.afp_base.specs.Overlap.{Range, do_meet}
use Rattle.range_locks.specs.declared.rows.LockRow.{LockRow}
use Rattle.range_locks.specs.declared.rows.Seen.{Seen}
use Rattle.range_locks.specs.Locks.{are_one_row}

-- the rows that meet the range: of others, and, where there is none of these, of the reference; and the place behind the rows that end before the range
pub record IsSeen (rows : List LockRow) (reference : ℕ) (range : Range) (seen : Seen) : Type 0 where
  pub other : seen.other ≡ list_any (λ row. do_meet row.range range && not (row.reference.0 == reference)) rows
  pub own : seen.other ≡ false → seen.own ≡ list_any (λ row. do_meet row.range range && (row.reference.0 == reference)) rows
  pub ordered : range.from ≤ range.to
  pub within : seen.place ≤ length rows
  pub before : (i : ℕ) (d : LockRow) → i < seen.place → let row : LockRow = slice_index_or rows i d in nat_lt row.range.to range.from ≡ true
  pub behind : (i : ℕ) (d : LockRow) → seen.place ≤ i → i < length rows → let row : LockRow = slice_index_or rows i d in nat_lt row.range.to range.from ≡ false

-- the place of a row; none where it is not among them
abbrev pub IsRowPlace : List LockRow → LockRow → Option ℕ → Type 0
IsRowPlace rows row (Some place) = (place < length rows) × ((d : LockRow) → are_one_row row (slice_index_or rows place d) ≡ true)
IsRowPlace rows row None = list_any (are_one_row row) rows ≡ false
