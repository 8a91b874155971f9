-- The bytes of fields, as they are written (AFP Reference, "AFP Calls"). All numbers are big-endian.
use Rattle.std.specs.Prelude.{ℕ, Bool, true, false, List, [], ◌∷◌, ◌++◌, length, Option, Some, None}
use Rattle.byteorder.specs.Endian.{big_bytes}
use Rattle.afp_replies.specs.Numbers.{directory_flag}

-- a number of 1, 2, 4 and 8 bytes
abbrev pub u8_bytes : ℕ → List ℕ
u8_bytes x = big_bytes 1 x

abbrev pub u16_bytes : ℕ → List ℕ
u16_bytes x = big_bytes 2 x

abbrev pub u32_bytes : ℕ → List ℕ
u32_bytes x = big_bytes 4 x

abbrev pub u64_bytes : ℕ → List ℕ
u64_bytes x = big_bytes 8 x

-- a number of 4 bytes, where there is one
abbrev pub optional_bytes : Option ℕ → List ℕ
optional_bytes None = []
optional_bytes (Some x) = u32_bytes x

-- a pad byte
abbrev pub pad_byte : List ℕ
pad_byte = 0 ∷ []

-- a text with its count in so many bytes before it
abbrev pub with_count : ℕ → List ℕ → List ℕ
with_count n text = big_bytes n (length text) ++ text

-- the flag of a directory, and that of a file (AFP Reference, FPGetFileDirParms)
abbrev pub flag_of : Bool → ℕ
flag_of true = directory_flag
flag_of false = 0

-- how many bytes a count or a length has: 1 where it is narrow, 2 where it is wide
abbrev pub width : Bool → ℕ
width false = 1
width true = 2
