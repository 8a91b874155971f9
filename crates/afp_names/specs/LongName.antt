-- Long names, for clients that name nodes in at most 31 bytes (AFP Reference, "Long names"; how a name is shortened is this profile's).
use Rattle.std.specs.Prelude.{ℕ, ◌-◌, ◌==◌, ◌&&◌, Bool, true, List, [], ◌∷◌, ◌++◌, length, take, map, nat_lt, nat_le, is_some, unwrap_or, if◌then◌else◌, chars}
use Rattle.std.specs.List.{list_all, before_last, after_last}
use Rattle.std.specs.Char.{is_ascii_alphanumeric}
use Rattle.std.specs.Fmt.{digits}
use Rattle.unicode_normalization.specs.Forms.{nfc}
use Rattle.afp_names.specs.MacRoman.{mac_roman_byte}

-- the most bytes of a long name (AFP Reference, "Long names"), and the most characters of an extension (this profile)
abbrev pub longest_long_name : ℕ
longest_long_name = 31

abbrev pub longest_extension : ℕ
longest_extension = 4

-- `#`, `.` and `?`, as characters and as bytes
abbrev pub number_sign : ℕ
number_sign = 35

abbrev pub full_stop : ℕ
full_stop = 46

abbrev pub question_mark : ℕ
question_mark = 63

-- the byte of a character, or `?` where the character set has none
unfoldable pub shown_byte : ℕ → ℕ
shown_byte c = unwrap_or (mac_roman_byte c) question_mark

-- whether a text is a long name as it stands
unfoldable pub is_long_name : List ℕ → Bool
is_long_name text = nat_le (length text) longest_long_name && list_all (λ c. is_some (mac_roman_byte c)) text

-- 1 to 4 ASCII letters or digits
unfoldable pub is_extension : List ℕ → Bool
is_extension behind = nat_lt 0 (length behind) && (nat_le (length behind) longest_extension && list_all is_ascii_alphanumeric behind)

-- the last `.` and what stands behind it, where that is an extension and something stands before the `.`; else nothing
unfoldable pub extension_of : List ℕ → List ℕ
extension_of text =
    let before = before_last (λ c. c == full_stop) text in
    let behind = after_last (λ c. c == full_stop) text in
    if nat_lt 0 (length before) && is_extension behind then full_stop ∷ behind else []

-- what stands before the extension
unfoldable pub stem_of : List ℕ → List ℕ
stem_of text = take (length text - length (extension_of text)) text

-- what follows the stem in a shortened name: `#`, the id in upper-case hexadecimal with no leading zero, and the extension
unfoldable pub ending_of : List ℕ → ℕ → List ℕ
ending_of text id = (number_sign ∷ digits 16 true id) ++ map shown_byte (extension_of text)

-- the stem, cut so that the whole has at most 31 bytes, and the ending
unfoldable pub shortened : List ℕ → ℕ → List ℕ
shortened text id = map shown_byte (take (longest_long_name - length (ending_of text id)) (stem_of text)) ++ ending_of text id

-- the name in form C where that is a long name as it stands, else its shortened name
unfoldable pub long_name_of : List ℕ → ℕ → List ℕ
long_name_of name id = let text = nfc (chars name) in if is_long_name text then map shown_byte text else shortened text id
