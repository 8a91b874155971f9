-- Reading up to a character, told by the place of its first byte (AFP Reference, FPRead: newline mask and newline character).
use Rattle.std.specs.Prelude.{◌≡◌, ℕ, ◌==◌, bit_and, List, position, is_some}
use Rattle.afp_serial.specs.ForkBytes.{up_to}
use Rattle.fork_bytes.specs.Line.{line_of}

-- a line stops where a byte's value under the mask is the character, and has the bytes up to the first such one
abbrev pub LinesStop : Type 0
LinesStop = (mask character : ℕ) (bytes : List ℕ) → (line_of mask character bytes).stopped ≡ is_some (position (λ b. bit_and b mask == character) bytes)

abbrev pub LinesEnd : Type 0
LinesEnd = (mask character : ℕ) (bytes : List ℕ) → (line_of mask character bytes).bytes ≡ up_to (position (λ b. bit_and b mask == character) bytes) bytes
