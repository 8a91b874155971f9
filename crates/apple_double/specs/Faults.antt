-- Why bytes are no file of either format, in the order in which it is found (this profile).
use Rattle.std.specs.Prelude.{ℕ, ◌+◌, ◌*◌, ◌==◌, ◌&&◌, ◌||◌, Bool, nat_lt, not, List, [], ◌∷◌, ◌++◌, length, map, Option, is_none, is_some}
use Rattle.std.specs.List.{range_with_len}
use Rattle.afp_base.specs.Choice.{first_holding}
use Rattle.apple_double.specs.declared.descriptor.Descriptor.{Descriptor}
use Rattle.apple_double.specs.declared.parcel.ParcelFault.{ParcelFault}
use Rattle.apple_double.specs.declared.parcel.ParcelFault.TheVariants.{Short, Magic, Version, Entry}
use Rattle.apple_double.specs.declared.parcel.Shape.TheVariants as shapes
use Rattle.apple_double.specs.Format.{magic_of, magic_in, version, version_in, count_in, header_size, descriptor_at, first_descriptors, with_id, slice_of}
use Rattle.apple_double.specs.Contents.{is_read, name_id, dates_id, finder_id, dates_size, finder_size, name_in}

-- the file begins with neither magic number
abbrev pub has_no_magic : List ℕ → Bool
has_no_magic bytes = not (magic_in bytes == magic_of shapes.Single || magic_in bytes == magic_of shapes.Double)

-- what is wrong with the header, in the order of its fields: one is not all there, or one of the two that are fixed has another value
abbrev pub header_faults : List ℕ → List (Bool × ParcelFault)
header_faults bytes =
    (nat_lt (length bytes) 4, Short 0)
    ∷ (has_no_magic bytes, Magic)
    ∷ (nat_lt (length bytes) 8, Short 4)
    ∷ (not (version_in bytes == version), Version)
    ∷ (nat_lt (length bytes) 24, Short 8)
    ∷ (nat_lt (length bytes) header_size, Short 24)
    ∷ []

-- a field of a descriptor, of 4 bytes, that is not all there
abbrev pub field_fault : List ℕ → ℕ → Bool × ParcelFault
field_fault bytes k = (nat_lt (length bytes) (header_size + 4 * k + 4), Short (header_size + 4 * k))

unfoldable pub field_faults : List ℕ → List (Bool × ParcelFault)
field_faults bytes = map (field_fault bytes) (range_with_len 0 (3 * count_in bytes))

-- the entry has fewer bytes than its id asks for, or they are no name
abbrev pub is_bad_content : List ℕ → Descriptor → Bool
is_bad_content bytes d =
    (d.id == dates_id && nat_lt d.size dates_size)
    || (d.id == finder_id && nat_lt d.size finder_size)
    || (d.id == name_id && is_none (name_in (slice_of bytes d)))

-- an entry that is read, and whose id stands earlier, whose range passes the end of the file, or whose content is bad
abbrev pub is_bad_entry : List ℕ → List Descriptor → Descriptor → Bool
is_bad_entry bytes earlier d =
    is_read d.id && (is_some (with_id d.id earlier) || nat_lt (length bytes) (d.offset + d.size) || is_bad_content bytes d)

abbrev pub entry_fault : List ℕ → ℕ → Bool × ParcelFault
entry_fault bytes index = (is_bad_entry bytes (first_descriptors index bytes) (descriptor_at bytes index), Entry index)

unfoldable pub entry_faults : List ℕ → List (Bool × ParcelFault)
entry_faults bytes = map (entry_fault bytes) (range_with_len 0 (count_in bytes))

-- why the bytes are no parcel: the first of these rows that holds; none where they are one
unfoldable pub parcel_fault : List ℕ → Option ParcelFault
parcel_fault bytes = first_holding (header_faults bytes ++ field_faults bytes ++ entry_faults bytes)
