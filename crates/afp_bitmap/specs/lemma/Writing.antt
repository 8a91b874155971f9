-- How the writer goes, for its proofs; no public contract cites it.
use Rattle.std.specs.Prelude.{◌≡◌, ℕ, ◌+◌, ◌≤◌, ◌<◌, List, [], ◌∷◌, ◌++◌, length, take, drop, Option, Some, None}
use Rattle.byteorder.specs.Endian.{big_bytes}
use Rattle.afp_bitmap.specs.declared.write.Field as code
use Rattle.afp_bitmap.specs.declared.write.Field.TheVariants as codes
use Rattle.afp_bitmap.specs.declared.write.FieldRow as rows
use Rattle.afp_bitmap.specs.declared.write.NameSpot as spots
use Rattle.afp_bitmap.specs.declared.write.NameSpots as all_spots
use Rattle.afp_bitmap.specs.Field.{Field, Number, Date, Finder, LongName, Utf8Name, fixed_bytes, pad_of, long_name_bytes, utf8_name_bytes}
use Rattle.afp_bitmap.specs.Table.{FieldRow}

-- what the code's field and row show
abbrev pub field_of : code.Field → Field
field_of (codes.Short x) = Number 2 x
field_of (codes.Long x) = Number 4 x
field_of (codes.Wide x) = Number 8 x
field_of (codes.Date z) = Date z
field_of (codes.Finder info) = Finder info.now
field_of (codes.LongName name) = LongName name.now
field_of (codes.Utf8Name name) = Utf8Name name.now

abbrev pub row_of : rows.FieldRow → FieldRow
row_of r = (r.0, field_of r.1)

-- one of three, by what stands for the field in the variable part
abbrev pub by_name : Field → Type 0 → Type 0 → Type 0 → Type 0
by_name (Number n x) plain long utf8 = plain
by_name (Date z) plain long utf8 = plain
by_name (Finder info) plain long utf8 = plain
by_name (LongName name) plain long utf8 = long
by_name (Utf8Name name) plain long utf8 = utf8

-- no names
abbrev pub NoNames : List Field → Type 0
NoNames [] = Unit {0}
NoNames (f ∷ fs) = by_name f (NoNames fs) ⊥ ⊥

-- no long name, and at most one UTF-8 name
abbrev pub Late : List Field → Type 0
Late [] = Unit {0}
Late (f ∷ fs) = by_name f (Late fs) ⊥ (NoNames fs)

-- at most one long name, and behind it at most one UTF-8 name
abbrev pub Formed : List Field → Type 0
Formed [] = Unit {0}
Formed (f ∷ fs) = by_name f (Formed fs) (Late fs) (NoNames fs)

-- the bytes for the Finder are 32
abbrev pub IsSized : Field → Type 0
IsSized (Finder info) = length info ≡ 32
IsSized f = Unit {0}

-- where a name's place is to be written, and the name
abbrev pub NameSpot : Type 0
NameSpot = ℕ × List ℕ

abbrev pub spot_of : Option spots.NameSpot → Option NameSpot
spot_of None = None
spot_of (Some s) = Some (s.at, s.name.now)

pub record NameSpots : Type 0 where
  pub long_name : Option NameSpot
  pub utf8_name : Option NameSpot

abbrev pub spots_of : all_spots.NameSpots → NameSpots
spots_of s = record { long_name = spot_of s.long_name; utf8_name = spot_of s.utf8_name }

abbrev pub no_spots : NameSpots
no_spots = record { long_name = None; utf8_name = None }

-- a name is noted
abbrev pub noted : ℕ → Field → NameSpots → NameSpots
noted at (LongName name) s = record { long_name = Some (at, name); utf8_name = s.utf8_name }
noted at (Utf8Name name) s = record { long_name = s.long_name; utf8_name = Some (at, name) }
noted at f s = s

-- the names of fields that begin at this place
unfoldable pub all_noted : ℕ → List Field → NameSpots → NameSpots
all_noted at [] s = s
all_noted at (f ∷ fs) s = all_noted (at + length (fixed_bytes 0 f)) fs (noted at f s)

-- the bytes and their pad
abbrev pub padded : List ℕ → List ℕ
padded bytes = bytes ++ pad_of bytes

-- the bytes with a number over the 2 at this place
abbrev pub patched : ℕ → ℕ → List ℕ → List ℕ
patched at number bytes = take at bytes ++ (big_bytes 2 number ++ drop 2 (drop at bytes))

-- a name can be appended: it can be counted, and its place is written over 2 bytes
abbrev pub CanName : ℕ → Option NameSpot → List ℕ → Type 0
CanName limit None bytes = Unit {0}
CanName limit (Some s) bytes = (length s.1 < limit) × (s.0 + 2 ≤ length bytes) × (length bytes < 65536)

-- the bytes with a name behind them, whose place is written
abbrev pub with_long_name : Option NameSpot → List ℕ → List ℕ
with_long_name None bytes = bytes
with_long_name (Some s) bytes = patched s.0 (length bytes) bytes ++ padded (long_name_bytes s.1)

abbrev pub with_utf8_name : Option NameSpot → List ℕ → List ℕ
with_utf8_name None bytes = bytes
with_utf8_name (Some s) bytes = patched s.0 (length bytes) bytes ++ padded (utf8_name_bytes s.1)
