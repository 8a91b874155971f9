-- Numbers in decimal digits (this profile).
use Rattle.std.specs.Prelude.{ℕ, ◌+◌, ◌*◌, ◌-◌, ◌==◌, ◌&&◌, ◌||◌, nat_le, not, Bool, if◌then◌else◌, List, [], ◌∷◌, length, slice_index, Option, Some, None}
use Rattle.std.specs.List.{list_all}

abbrev pub is_digit : ℕ → Bool
is_digit byte = nat_le 48 byte && nat_le byte 57

-- digits, one at least
abbrev pub are_digits : List ℕ → Bool
are_digits word = not (length word == 0) && list_all is_digit word

-- the same, without a leading zero
abbrev pub is_decimal : List ℕ → Bool
is_decimal word = are_digits word && (length word == 1 || not (slice_index word 0 == 48))

-- the number that digits spell behind a first part of this value
abbrev pub value_behind : ℕ → List ℕ → ℕ
value_behind value [] = value
value_behind value (digit ∷ digits) = value_behind (value * 10 + (digit - 48)) digits

-- the number that a word spells, if it is one of at most so much; it may have leading zeros
abbrev pub padded_number_in : ℕ → List ℕ → Option ℕ
padded_number_in most word = if are_digits word && nat_le (value_behind 0 word) most then Some (value_behind 0 word) else None

-- the same, without a leading zero
abbrev pub number_in : ℕ → List ℕ → Option ℕ
number_in most word = if is_decimal word && nat_le (value_behind 0 word) most then Some (value_behind 0 word) else None
