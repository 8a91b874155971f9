-- Reading up to a character (AFP Reference, FPRead: newline mask and newline character).
use Rattle.std.specs.Prelude.{ℕ, bit_and, ◌==◌, Bool, true, false, if◌then◌else◌, List, [], ◌∷◌}

-- what a read up to a character gives, and whether it met the character
pub record Line : Type 0 where
  pub bytes : List ℕ
  pub stopped : Bool

-- a byte in front of a line
abbrev pub with_first : ℕ → Line → Line
with_first b line = record { bytes = b ∷ line.bytes; stopped = line.stopped }

-- The bytes up to the first whose value under the mask is the character, that one included, and whether there was one.
abbrev pub line_of : ℕ → ℕ → List ℕ → Line
line_of mask end [] = record { bytes = []; stopped = false }
line_of mask end (b ∷ bs) = if bit_and b mask == end then record { bytes = b ∷ []; stopped = true } else with_first b (line_of mask end bs)
