-- How a file of either format is laid out (RFC 1740, "AppleSingle and AppleDouble formats"). All numbers are big-endian.
use Rattle.std.specs.Prelude.{ℕ, ◌+◌, ◌*◌, ◌==◌, List, [], drop, take, map, Option, None, Some}
use Rattle.std.specs.List.{find, range_with_len}
use Rattle.byteorder.specs.Endian.{big_number}
use Rattle.apple_double.specs.declared.descriptor.Descriptor.{Descriptor}
use Rattle.apple_double.specs.declared.parcel.Shape.{Shape}
use Rattle.apple_double.specs.declared.parcel.Shape.TheVariants as shapes

-- the number that each format begins with
abbrev pub magic_of : Shape → ℕ
magic_of shapes.Single = 0x00051600
magic_of shapes.Double = 0x00051607

-- the version of both formats
abbrev pub version : ℕ
version = 0x00020000

-- bytes of the header: the magic number in 4, the version in 4, a filler of 16, the count of entries in 2
abbrev pub header_size : ℕ
header_size = 26

-- bytes of a descriptor: an entry's id, its offset from the first byte of the file, and its length, each in 4
abbrev pub descriptor_size : ℕ
descriptor_size = 12

-- the number of n bytes at a place
unfoldable pub number_at : ℕ → ℕ → List ℕ → ℕ
number_at n place bytes = big_number n (drop place bytes)

-- the fields of a file's header
abbrev pub magic_in : List ℕ → ℕ
magic_in bytes = number_at 4 0 bytes

abbrev pub version_in : List ℕ → ℕ
version_in bytes = number_at 4 4 bytes

abbrev pub count_in : List ℕ → ℕ
count_in bytes = number_at 2 24 bytes

-- the descriptor whose fields stand from a place on
abbrev pub descriptor_from : ℕ → List ℕ → Descriptor
descriptor_from place bytes = record { id = number_at 4 place bytes; offset = number_at 4 (place + 4) bytes; size = number_at 4 (place + 8) bytes }

-- the descriptor of the entry with this index, from 0
abbrev pub descriptor_at : List ℕ → ℕ → Descriptor
descriptor_at bytes index = descriptor_from (header_size + descriptor_size * index) bytes

-- the first n descriptors, and all that the header counts
abbrev pub first_descriptors : ℕ → List ℕ → List Descriptor
first_descriptors n bytes = map (descriptor_at bytes) (range_with_len 0 n)

abbrev pub descriptors : List ℕ → List Descriptor
descriptors bytes = first_descriptors (count_in bytes) bytes

-- the first of these descriptors that has this id
abbrev pub with_id : ℕ → List Descriptor → Option Descriptor
with_id id ds = find (λ d. d.id == id) ds

-- the slice of the file that a descriptor names
abbrev pub slice_of : List ℕ → Descriptor → List ℕ
slice_of bytes d = take d.size (drop d.offset bytes)

-- what the descriptor names, where there is one; else nothing
abbrev pub slice_of_any : List ℕ → Option Descriptor → List ℕ
slice_of_any bytes None = []
slice_of_any bytes (Some d) = slice_of bytes d

-- the bytes of the entry with this id, none where no descriptor has it
unfoldable pub part : ℕ → List ℕ → List ℕ
part id bytes = slice_of_any bytes (with_id id (descriptors bytes))
