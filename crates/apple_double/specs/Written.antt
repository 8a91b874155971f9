-- The parcel that is written of a Macintosh file (RFC 1740; which entries, and their order, is this profile's).
use Rattle.std.specs.Prelude.{ℕ, ℤ, ◌+◌, ◌*◌, ◌≤◌, List, [], ◌∷◌, ◌++◌, length, replicate, Option, None, Some}
use Rattle.std.specs.Int.{w32, cast_unsigned}
use Rattle.byteorder.specs.Endian.{big_bytes}
use Rattle.apple_double.specs.declared.parcel.Parcel.{Parcel}
use Rattle.apple_double.specs.declared.parcel.Shape.{Shape}
use Rattle.apple_double.specs.declared.parcel.Shape.TheVariants as shapes
use Rattle.apple_double.specs.Format.{magic_of, version, header_size, descriptor_size}
use Rattle.apple_double.specs.Contents.{data_id, resource_id, name_id, comment_id, dates_id, finder_id, never, longest_comment, data_in}

-- an entry: its id and its bytes
pub record Entry : Type 0 where
  pub id : ℕ
  pub bytes : List ℕ

-- a descriptor's bytes: the id, the offset from the first byte of the file, the length
unfoldable pub descriptor_bytes : ℕ → ℕ → ℕ → List ℕ
descriptor_bytes id offset size = big_bytes 4 id ++ big_bytes 4 offset ++ big_bytes 4 size

-- the descriptors of entries whose bytes stand from an offset on, without gaps
abbrev pub described : ℕ → List Entry → List ℕ
described offset [] = []
described offset (e ∷ es) = descriptor_bytes e.id offset (length e.bytes) ++ described (offset + length e.bytes) es

-- the entries' bytes, one after the other
abbrev pub contents : List Entry → List ℕ
contents [] = []
contents (e ∷ es) = e.bytes ++ contents es

-- where the entries' bytes begin: behind the header and the descriptors
abbrev pub contents_place : ℕ → ℕ
contents_place count = header_size + descriptor_size * count

-- the header of a file of so many entries, its filler zeros
unfoldable pub header : Shape → ℕ → List ℕ
header shape count = big_bytes 4 (magic_of shape) ++ big_bytes 4 version ++ replicate 16 0 ++ big_bytes 2 count

-- a file of these entries
unfoldable pub file_of : Shape → List Entry → List ℕ
file_of shape es = header shape (length es) ++ described (contents_place (length es)) es ++ contents es

-- an entry, and one that is there where its part is
abbrev pub entry : ℕ → List ℕ → List Entry
entry id bytes = record { id = id; bytes = bytes } ∷ []

abbrev pub entry_if : ℕ → Option (List ℕ) → List Entry
entry_if id None = []
entry_if id (Some bytes) = entry id bytes

-- the bytes of a date
abbrev pub date_bytes : ℤ → List ℕ
date_bytes z = big_bytes 4 (cast_unsigned w32 z)

-- the dates of a file: created, modified, backup, and never for the access
unfoldable pub dates_bytes : Parcel → List ℕ
dates_bytes p = date_bytes p.created ++ date_bytes p.modified ++ date_bytes p.backup ++ big_bytes 4 never

-- the data fork's entry, in an AppleSingle file alone
abbrev pub data_entry : Shape → List ℕ → List Entry
data_entry shapes.Single bytes = entry data_id bytes
data_entry shapes.Double bytes = []

-- the entries of a file, in their order
abbrev pub entries : Shape → Parcel → List Entry
entries shape p = entry_if name_id p.name ++ entry dates_id (dates_bytes p) ++ entry finder_id p.finder ++ entry_if comment_id p.comment
    ++ entry resource_id p.resource_fork ++ data_entry shape p.data_fork

-- the parcel of a file
abbrev pub parcel_bytes : Shape → Parcel → List ℕ
parcel_bytes shape p = file_of shape (entries shape p)

-- a comment that can be written: 1 to 199 bytes
abbrev pub IsComment : List ℕ → Type 0
IsComment comment = (1 ≤ length comment) × (length comment ≤ longest_comment)

-- the file as a parcel of this format holds it: an AppleDouble header file holds no data
abbrev pub as_held : Shape → Parcel → Parcel
as_held shape p = record p { data_fork = data_in shape p.data_fork }
