-- The words of a script's lines: escaped bytes and paths (this profile).
use Rattle.std.specs.Prelude.{ℕ, ◌==◌, ◌&&◌, ◌||◌, nat_le, not, Bool, false, if◌then◌else◌, List, [], ◌∷◌, length, codes, bytes_eq, Option, Some, None, option_map, is_some, is_none}
use Rattle.std.specs.List.{list_all, slice_split}
use Rattle.std.specs.Result.{result_ok}
use Rattle.hex.specs.Hex.{decode_sized}
use Rattle.afp_names.specs.Name.{name_fault}
use Rattle.line_words.specs.Hexadecimal.{spelt}
use Rattle.line_words.specs.Words.{is_word}

-- the most bytes of a line (this profile)
abbrev pub longest_line : ℕ
longest_line = 4096

-- the most bytes of a volume's name and of a comment (AFP Reference, "FPAddComment"; this profile)
abbrev pub longest_text : ℕ
longest_text = 255

abbrev pub is_slash : ℕ → Bool
is_slash byte = byte == 47

abbrev pub is_percent : ℕ → Bool
is_percent byte = byte == 37

-- a byte more before what a word stands for
abbrev pub onto : ℕ → Option (List ℕ) → Option (List ℕ)
onto byte rest = option_map (λ bytes. byte ∷ bytes) rest

-- the byte that two hexadecimal digits spell, before what the rest of the word stands for
abbrev pub onto_escaped : Option (List ℕ) → Option (List ℕ) → Option (List ℕ)
onto_escaped (Some (byte ∷ [])) rest = onto byte rest
onto_escaped digits rest = None

-- what a word stands for: %XX is a byte in hexadecimal digits of either case, and each other byte is itself
unfoldable pub plain : List ℕ → Option (List ℕ)
plain [] = Some []
plain (b ∷ []) = if is_percent b then None else onto b (plain [])
plain (b ∷ c ∷ []) = if is_percent b then None else onto b (plain (c ∷ []))
plain (b ∷ c ∷ d ∷ word) = if is_percent b then onto_escaped (result_ok (decode_sized (c ∷ d ∷ []) 1)) (plain word) else onto b (plain (c ∷ d ∷ word))

-- it is a name
abbrev pub is_name : Option (List ℕ) → Bool
is_name None = false
is_name (Some bytes) = is_none (name_fault bytes)

-- it has at most so many bytes
abbrev pub is_short : ℕ → Option (List ℕ) → Bool
is_short most None = false
is_short most (Some bytes) = nat_le (length bytes) most

-- an element of a path
abbrev pub is_element : List ℕ → Bool
is_element word = is_name (plain word)

-- the path of no elements
abbrev pub is_root : List ℕ → Bool
is_root word = bytes_eq word (codes "/")

-- a path with elements, parted by /
abbrev pub is_deep_path : List ℕ → Bool
is_deep_path word = is_word word && list_all is_element (slice_split is_slash word)

-- a path from the root of the volume
abbrev pub is_path : List ℕ → Bool
is_path word = is_root word || is_deep_path word

-- bytes
abbrev pub is_bytes : List ℕ → Bool
is_bytes word = is_word word && is_some (plain word)

-- a text of at most 255 bytes
abbrev pub is_text : List ℕ → Bool
is_text word = is_word word && is_short longest_text (plain word)

-- hexadecimal digits, two for each byte
abbrev pub is_hex : List ℕ → Bool
is_hex word = not (length word == 0) && is_some (spelt word)
