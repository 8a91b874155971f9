-- The texts that a client's script prints (this profile).
use Rattle.std.specs.Prelude.{ℕ, ◌==◌, ◌&&◌, ◌||◌, nat_le, Bool, if◌then◌else◌, List, [], ◌∷◌, ◌++◌, length, codes}
use Rattle.std.specs.Fmt.{decimal, signed_decimal}
use Rattle.hex.specs.Hex.{encode_lower}
use Rattle.afp_base.specs.Code.{number_of}
use Rattle.afp_base.specs.declared.code.Code.{Code}

-- bytes that stand for themselves: letters, digits, and . - _
abbrev pub is_shown : ℕ → Bool
is_shown byte = nat_le 97 byte && nat_le byte 122 || nat_le 65 byte && nat_le byte 90 || nat_le 48 byte && nat_le byte 57 || byte == 46 || byte == 45 || byte == 95

-- a byte in a text: as it stands, or %XX in lower case
abbrev pub shown_byte : ℕ → List ℕ
shown_byte byte = if is_shown byte then byte ∷ [] else 37 ∷ encode_lower (byte ∷ [])

unfoldable pub shown : List ℕ → List ℕ
shown [] = []
shown (byte ∷ bytes) = shown_byte byte ++ shown bytes

abbrev pub newline : List ℕ
newline = 10 ∷ []

-- a word and a number in decimal
abbrev pub numbered : List ℕ → ℕ → List ℕ
numbered word number = word ++ decimal number

-- a refusal
abbrev pub error_text : Code → List ℕ
error_text code = codes "error " ++ signed_decimal (number_of code)

-- the bytes of a fork
abbrev pub got_text : List ℕ → List ℕ
got_text [] = codes "got 0"
got_text (byte ∷ bytes) = numbered (codes "got ") (length (byte ∷ bytes)) ++ codes " " ++ encode_lower (byte ∷ bytes)

-- a word and a text
abbrev pub worded : List ℕ → List ℕ → List ℕ
worded word bytes = word ++ shown bytes

-- a file or a directory of a list: a word, its id and its name
abbrev pub entry_line : List ℕ → ℕ → List ℕ → List ℕ
entry_line word id name = numbered word id ++ codes " " ++ shown name ++ newline

-- the bytes of a parcel
abbrev pub packed_text : List ℕ → List ℕ
packed_text bytes = numbered (codes "packed ") (length bytes) ++ codes " " ++ encode_lower bytes
