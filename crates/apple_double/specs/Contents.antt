-- What the entries hold (RFC 1740, "Entry IDs"; the choice of entries and the defaults are this profile's).
use Rattle.std.specs.Prelude.{ℕ, ◌==◌, ◌+◌, nat_lt, Bool, ℤ, List, [], ◌∷◌, length, take, replicate, Option, None, Some, is_none, if◌then◌else◌}
use Rattle.std.specs.List.{list_any}
use Rattle.std.specs.Int.{w32, cast_signed}
use Rattle.afp_names.specs.MacRoman.{mac_roman_text}
use Rattle.afp_names.specs.Name.{name_fault}
use Rattle.apple_double.specs.declared.parcel.Shape.{Shape}
use Rattle.apple_double.specs.declared.parcel.Shape.TheVariants as shapes
use Rattle.apple_double.specs.Format.{number_at}

-- the ids of the entries that are read: the two forks, the name, the comment, the dates and the Finder's information
abbrev pub data_id : ℕ
data_id = 1

abbrev pub resource_id : ℕ
resource_id = 2

abbrev pub name_id : ℕ
name_id = 3

abbrev pub comment_id : ℕ
comment_id = 4

abbrev pub dates_id : ℕ
dates_id = 8

abbrev pub finder_id : ℕ
finder_id = 9

abbrev pub is_read : ℕ → Bool
is_read id = list_any (λ known. known == id) (data_id ∷ resource_id ∷ name_id ∷ comment_id ∷ dates_id ∷ finder_id ∷ [])

-- these bytes, where they are a name
abbrev pub if_name : List ℕ → Option (List ℕ)
if_name bytes = if is_none (name_fault bytes) then Some bytes else None

-- The name that bytes are: as UTF-8, or else in the character set of long names. None where they are no name either way.
unfoldable pub name_in : List ℕ → Option (List ℕ)
name_in bytes = if is_none (name_fault bytes) then Some bytes else if_name (mac_roman_text bytes)

-- bytes of the dates: created, modified, backup and access, each a signed number of 4 bytes, in seconds from 2000-01-01 00:00 GMT
abbrev pub dates_size : ℕ
dates_size = 16

-- the date that means "never", as an unsigned number: the least of the signed ones
abbrev pub never : ℕ
never = 0x80000000

-- the date at a place of the dates; never, where it is not all there
abbrev pub date_in : ℕ → List ℕ → ℤ
date_in place bytes = cast_signed w32 (if nat_lt (length bytes) (place + 4) then never else number_at 4 place bytes)

-- bytes of the Finder's information that are read
abbrev pub finder_size : ℕ
finder_size = 32

-- the Finder's information: the first 32 bytes, and zeros where there are fewer
abbrev pub finder_in : List ℕ → List ℕ
finder_in bytes = if nat_lt (length bytes) finder_size then replicate finder_size 0 else take finder_size bytes

-- the most bytes of a comment (AFP Reference, "FPAddComment")
abbrev pub longest_comment : ℕ
longest_comment = 199

-- a comment, cut to what it may have; an empty one is none
abbrev pub comment_in : List ℕ → Option (List ℕ)
comment_in [] = None
comment_in (byte ∷ bytes) = Some (take longest_comment (byte ∷ bytes))

-- the data fork: it is not taken from an AppleDouble header file, whose data stand in a file of their own
abbrev pub data_in : Shape → List ℕ → List ℕ
data_in shapes.Single bytes = bytes
data_in shapes.Double bytes = []
