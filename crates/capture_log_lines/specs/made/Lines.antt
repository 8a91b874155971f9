-- The lines of a made capture, as they are written (docs/CAPTURES.md; this profile).
use Rattle.std.specs.Prelude.{ℕ, ◌&&◌, nat_lt, nat_le, Bool, List, [], ◌∷◌, ◌++◌, length, codes}
use Rattle.std.specs.Fmt.{decimal}
use Rattle.hex.specs.Hex.{encode_lower}

-- the house: no user, and one volume; its signature is that of the examples, and its key has only zeros
abbrev pub house_lines : List (List ℕ)
house_lines =
    codes "afp-capture 1"
    ∷ codes "server Mac"
    ∷ codes "signature 000102030405060708090a0b0c0d0e0f"
    ∷ codes "volume Share"
    ∷ codes "key 0000000000000000000000000000000000000000000000000000000000000000"
    ∷ []

-- bytes on a connection at a moment, behind a word
unfoldable pub event_line : ℕ → ℕ → List ℕ → List ℕ → List ℕ
event_line link now word bytes = codes "at " ++ (decimal link ++ (codes " " ++ (decimal now ++ (codes " " ++ (word ++ (codes " " ++ encode_lower bytes))))))

-- bytes that came
abbrev pub in_line : ℕ → ℕ → List ℕ → List ℕ
in_line link now bytes = event_line link now (codes "in") bytes

-- bytes that were answered
abbrev pub out_line : ℕ → ℕ → List ℕ → List ℕ
out_line link now bytes = event_line link now (codes "out") bytes

abbrev pub end_line : List ℕ
end_line = codes "end"

-- lines, each with its newline
abbrev pub ended_lines : List (List ℕ) → List ℕ
ended_lines [] = []
ended_lines (line ∷ lines) = line ++ 10 ∷ ended_lines lines

-- so many bytes have room in a line
abbrev pub most_bytes : ℕ
most_bytes = 140000

-- there are bytes, and a line has room for them
abbrev pub has_room : List ℕ → Bool
has_room bytes = nat_lt 0 (length bytes) && nat_le (length bytes) most_bytes
