-- FPSetForkParms: which length is set (AFP Reference, "FPSetForkParms"; the order of refusals is this profile's).
use Rattle.std.specs.Prelude.{ℕ, ◌==◌, Bool, ◌||◌, ◌&&◌, List, length, nat_lt, if◌then◌else◌}
use Rattle.afp_base.specs.Limits.{last_byte}
use Rattle.byteorder.specs.Endian.{big_number}

-- the bits of a fork's length in 4 bytes and in 8, of the data fork and of the resource fork (AFP Reference, "File Bitmap")
abbrev pub length_bits : Bool → ℕ
length_bits resource = if resource then 0x0400 else 0x0200

abbrev pub ext_length_bits : Bool → ℕ
ext_length_bits resource = if resource then 0x4000 else 0x0800

-- whether just a length of this fork is asked to be set (this profile)
abbrev pub asks_length : Bool → ℕ → Bool
asks_length resource bits = (bits == length_bits resource) || (bits == ext_length_bits resource)

-- the size of that length in bytes
abbrev pub length_size : Bool → ℕ → ℕ
length_size resource bits = if bits == length_bits resource then 4 else 8

-- the length that the tail begins with: 4 bytes have no sign, 8 have one (AFP Reference, "File Bitmap")
unfoldable pub length_in : Bool → ℕ → List ℕ → ℕ
length_in resource bits tail = big_number (length_size resource bits) tail

-- whether the tail has fewer bytes than the length, or the length is negative (this profile)
unfoldable pub has_no_length : Bool → ℕ → List ℕ → Bool
has_no_length resource bits tail = nat_lt (length tail) (length_size resource bits) || ((length_size resource bits == 8) && nat_lt last_byte (length_in resource bits tail))
