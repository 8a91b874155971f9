-- Bytes in hexadecimal digits, two for each (this profile).
use Rattle.std.specs.Prelude.{ℕ, ◌==◌, ◌&&◌, ◌||◌, nat_le, not, Bool, if◌then◌else◌, List, length, Option, None}
use Rattle.std.specs.List.{list_all}
use Rattle.std.specs.Result.{result_ok}
use Rattle.hex.specs.Hex.{decode_of, decode_sized}
use Rattle.line_words.specs.Numbers.{is_digit}

-- the bytes that digits of either case spell
abbrev pub spelt : List ℕ → Option (List ℕ)
spelt word = result_ok (decode_of word)

-- a digit of lower case
abbrev pub is_lower_digit : ℕ → Bool
is_lower_digit byte = is_digit byte || (nat_le 97 byte && nat_le byte 102)

-- the bytes that digits of lower case spell, at least one
abbrev pub hex_in : List ℕ → Option (List ℕ)
hex_in word = if not (length word == 0) && list_all is_lower_digit word then spelt word else None

-- so many bytes, which digits of lower case spell
abbrev pub sized_in : ℕ → List ℕ → Option (List ℕ)
sized_in size word = if list_all is_lower_digit word then result_ok (decode_sized word size) else None
