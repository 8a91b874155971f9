-- One field of a block of parameters.
use Rattle.std.specs.Prelude.{◌≡◌, ℕ, ◌<◌, ◌^◌, ◌%◌, ℤ, pos, FitsSigned, List, [], ◌∷◌, ◌++◌, length, replicate}
use Rattle.std.specs.Int.{w32, cast_unsigned}
use Rattle.byteorder.specs.Endian.{big_bytes}

-- A field and its value (AFP Reference, "File Bitmap"): a number of so many bytes, a date in seconds from 2000-01-01 00:00 GMT, the 32 bytes for the Finder, a volume's or a long name, a UTF-8 name.
pub data Field : Type 0 where
  Number : ℕ → ℕ → Field
  Date : ℤ → Field
  Finder : List ℕ → Field
  LongName : List ℕ → Field
  Utf8Name : List ℕ → Field

-- how many bytes a field has in the fixed part (AFP Reference, "File Bitmap")
abbrev pub fixed_size : Field → ℕ
fixed_size (Number n x) = n
fixed_size (Date z) = 4
fixed_size (Finder info) = 32
fixed_size (LongName name) = 2
fixed_size (Utf8Name name) = 6

-- A field's bytes in the fixed part. In place of a name there is the place where it stands, and behind the place of a UTF-8 name 4 zeros (AFP Reference, "FPGetFileDirParms").
abbrev pub fixed_bytes : ℕ → Field → List ℕ
fixed_bytes place (Number n x) = big_bytes n x
fixed_bytes place (Date z) = big_bytes 4 (cast_unsigned w32 z)
fixed_bytes place (Finder info) = info
fixed_bytes place (LongName name) = big_bytes 2 place
fixed_bytes place (Utf8Name name) = big_bytes 2 place ++ replicate 4 0

-- a long name as it stands: its count in a byte, then its bytes (AFP Reference, "Pascal string")
abbrev pub long_name_bytes : List ℕ → List ℕ
long_name_bytes name = length name ∷ name

-- a UTF-8 name as it stands: a hint of 0, its count in 2 bytes, then its bytes (AFP Reference, "AFPName")
abbrev pub utf8_name_bytes : List ℕ → List ℕ
utf8_name_bytes name = replicate 4 0 ++ big_bytes 2 (length name) ++ name

-- a zero where the bytes are odd in number (this profile)
abbrev pub pad_of : List ℕ → List ℕ
pad_of bytes = replicate (length bytes % 2) 0

-- what stands in the variable part for a field: a name and its pad, or nothing (AFP Reference, "FPGetFileDirParms")
abbrev pub name_parts : Field → List (List ℕ)
name_parts (LongName name) = long_name_bytes name ∷ pad_of (long_name_bytes name) ∷ []
name_parts (Utf8Name name) = utf8_name_bytes name ∷ pad_of (utf8_name_bytes name) ∷ []
name_parts field = []

-- the field with the value zero or empty (this profile)
abbrev pub blank : Field → Field
blank (Number n x) = Number n 0
blank (Date z) = Date (pos 0)
blank (Finder info) = Finder (replicate 32 0)
blank (LongName name) = LongName []
blank (Utf8Name name) = Utf8Name []

-- The name is short enough for its count: one byte, or two. Its place always fits in 2 bytes, since the fixed part and a long name have less than 512 bytes (AFP Reference, "FPGetFileDirParms").
abbrev pub IsCountable : Field → Type 0
IsCountable (LongName name) = length name < 256
IsCountable (Utf8Name name) = length name < 65536
IsCountable field = Unit {0}

-- the value is one of its type: a number of its bytes, a signed number of 4 bytes, 32 bytes (this profile)
abbrev pub IsTyped : Field → Type 0
IsTyped (Number n x) = x < 256 ^ n
IsTyped (Date z) = FitsSigned w32 z
IsTyped (Finder info) = length info ≡ 32
IsTyped field = Unit {0}
