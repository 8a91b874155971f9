-- Which of a list of nodes are files, and how many of them stand up to each place (this profile).
use Rattle.std.specs.Prelude.{◌≡◌, ℕ, suc, ◌+◌, ◌-◌, ◌^◌, ◌≤◌, ◌<◌, ◌==◌, nat_le, nat_lt, Bool, true, false, not, List, [], ◌∷◌, length, map, take, Option, Some, None, if◌then◌else◌}
use Rattle.std.specs.List.{filter}
use Rattle.volume_spec.specs.VolumeState.{Row}
use Rattle.volume_spec.specs.Walk.{row_at}
use Rattle.node_rows.specs.declared.child.Child.{Child}

-- kinds, true for a file; and room for so many more
pub record KindsValue : Type 0 where
  pub kinds : List Bool
  pub spare : ℕ

abbrev pub one_if : Bool → ℕ
one_if file = if file then 1 else 0

-- how many files stand up to each place, behind so many before the first
abbrev pub running : ℕ → List Bool → List ℕ
running n [] = []
running n (file ∷ kinds) = (one_if file + n) ∷ running (one_if file + n) kinds

-- the kinds of which these are the counts: a file stands where the count rises
abbrev pub kinds_of : ℕ → List ℕ → List Bool
kinds_of n [] = []
kinds_of n (count ∷ counts) = not (count == n) ∷ kinds_of count counts

-- whether these are the counts of kinds
abbrev pub AreCounts : List ℕ → Type 0
AreCounts counts = counts ≡ running 0 (kinds_of 0 counts)

-- whether a kind is this one
abbrev pub is_kind : Bool → Bool → Bool
is_kind true kind = kind
is_kind false kind = not kind

-- how many of a kind there are
abbrev pub many : Bool → List Bool → ℕ
many file kinds = length (filter (is_kind file) kinds)

-- the place of the one of a kind that stands behind so many others of it, from a place on and before another: that other where no more are there
pub record IsNth (kinds : List Bool) (file : Bool) (from end skip place : ℕ) : Type 0 where
  pub low : from ≤ place
  pub high : place ≤ end
  pub passed : many file (take place kinds) ≤ many file (take from kinds) + skip
  pub there : place < end → many file (take from kinds) + skip < many file (take (suc place) kinds)

-- a halving for it: before the one end no more than those passed stand, and up to the other end more
pub record IsHalved (kinds : List Bool) (file : Bool) (from end skip low high : ℕ) : Type 0 where
  pub start : from ≤ low
  pub order : low ≤ high
  pub within : high ≤ end
  pub passed : many file (take low kinds) ≤ many file (take from kinds) + skip
  pub there : high < end → many file (take from kinds) + skip < many file (take (suc high) kinds)

-- numbers that are changed in place
abbrev pub raised : ℕ → ℕ → ℕ
raised more n = n + more

abbrev pub lowered : ℕ → ℕ → ℕ
lowered less n = n - less

abbrev pub fits_more : ℕ → ℕ → Bool
fits_more more n = nat_lt (n + more) (2 ^ 64)

abbrev pub is_at_least : ℕ → ℕ → Bool
is_at_least less n = nat_le less n

-- whether what is there is a file
abbrev pub is_file : Option Row → Bool
is_file None = false
is_file (Some row) = not row.dir

-- whether the node of a child is a file
abbrev pub is_file_of : List Row → Child → Bool
is_file_of rows child = is_file (row_at rows child.id.0)

-- the kinds of children
abbrev pub child_kinds : List Row → List Child → List Bool
child_kinds rows children = map (is_file_of rows) children
