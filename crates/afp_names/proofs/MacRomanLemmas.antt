-- Reading and writing with a table of characters agree: each has one place, and none is ASCII.
use Rattle.std.proofs.Common.{◌≡◌, ℕ, suc, zero, ◌<◌, ◌≤◌, ◌+◌, ◌-◌, ◌==◌, ◌&&◌, ◌++◌, ◌*◌, take, encode_utf8, Bool, true, false, not, nat_lt, nat_le, List, [], ◌∷◌, length, get_or, Option, Some, None, option_map, position, if◌then◌else◌, IfSome, refl, sym, ◌∙◌, ap, arith}
use Rattle.std.specs.List.{list_all, list_any, position_or_len}
use Rattle.std.proofs.lemmas.List.{append-nil, append_assoc, take_more, length-append}
use Rattle.std.proofs.lemmas.List.Elements.{All-from_get_or}
use Rattle.std.proofs.lemmas.List.Folds.{list_any_none, list_any-append}
use Rattle.std.proofs.lemmas.Str.{inside_one, length-encode, len_utf8_bounds}
use Rattle.std.proofs.lemmas.Bool.{and_parts, not-true, eqb-true, ltb-false, ltb-true, leb-true, lt-ltb, le-ltb, eq-eqb, ne_eqb, eqb-false, or_parts}
use Rattle.std.proofs.lemmas.List.Quantifiers.{position-Some}
use Rattle.std.proofs.lemmas.List.Sums.{position_or_len_is}
use Rattle.afp_names.specs.Name.{longest_name}
use Rattle.afp_names.specs.LongName.{longest_long_name}
use Rattle.afp_names.specs.MacRoman.{mac_roman_char, mac_roman_byte, mac_roman_text, upper_characters}

-- the table's two readings, over any table
abbrev pub char_in : List ℕ → ℕ → ℕ
char_in table byte = if nat_lt byte 128 then byte else get_or table (byte - 128) 0

abbrev pub byte_in : List ℕ → ℕ → Option ℕ
byte_in table c = if nat_lt c 128 then Some c else option_map (λ place. place + 128) (position (λ x. x == c) table)

-- no two elements are the same
abbrev pub all_apart : List ℕ → Bool
all_apart [] = true
all_apart (x ∷ xs) = list_all (λ y. not (x == y)) xs && all_apart xs

pub passes_at : (p : ℕ → Bool) (xs : List ℕ) (k : ℕ) → list_all p xs ≡ true → k < length xs → p (get_or xs k 0) ≡ true
passes_at p [] k all within = absurd (omega arith)
passes_at p (x ∷ xs) zero all within = (and_parts (p x) (list_all p xs) all).0
passes_at p (x ∷ xs) (suc k) all within = passes_at p xs k (and_parts (p x) (list_all p xs) all).1 (omega arith)

pub apart_at : (xs : List ℕ) (j k : ℕ) → all_apart xs ≡ true → j < k → k < length xs → (get_or xs j 0 == get_or xs k 0) ≡ false
apart_at [] j k apart below within = absurd (omega arith)
apart_at (x ∷ xs) j zero apart below within = absurd (omega arith)
apart_at (x ∷ xs) zero (suc k) apart below within =
    not-true _ (passes_at (λ y. not (x == y)) xs k (and_parts (list_all (λ y. not (x == y)) xs) (all_apart xs) apart).0 (omega arith))
apart_at (x ∷ xs) (suc j) (suc k) apart below within =
    apart_at xs j k (and_parts (list_all (λ y. not (x == y)) xs) (all_apart xs) apart).1 (omega arith) (omega arith)

pub position-at : (xs : List ℕ) (k : ℕ) → all_apart xs ≡ true → k < length xs → position (λ x. x == get_or xs k 0) xs ≡ Some k
position-at xs k apart within =
    let place : position_or_len (λ x. x == get_or xs k 0) xs ≡ k = position_or_len_is (λ x. x == get_or xs k 0) xs k 0 (omega arith) (λ j below. apart_at xs j k apart below within) (λ _. eq-eqb (get_or xs k 0) (get_or xs k 0) refl) in
    let inside : nat_lt k (length xs) ≡ true = lt-ltb k (length xs) within in
    rw (place, inside) refl

byte_in-char_by : (t : Bool) (table : List ℕ) (b : ℕ) → nat_lt b 128 ≡ t → length table ≡ 128 → all_apart table ≡ true → list_all (nat_le 128) table ≡ true → b < 256 → byte_in table (char_in table b) ≡ Some b
byte_in-char_by true table b e len apart high small = rw (e, e) refl
byte_in-char_by false table b e len apart high small =
    let low : 128 ≤ b = ltb-false b 128 e in
    let within : b - 128 < length table = omega arith in
    let above : 128 ≤ get_or table (b - 128) 0 = leb-true _ _ (passes_at (nat_le 128) table (b - 128) high within) in
    let no_ascii : nat_lt (get_or table (b - 128) 0) 128 ≡ false = le-ltb _ _ above in
    let found : position (λ x. x == get_or table (b - 128) 0) table ≡ Some (b - 128) = position-at table (b - 128) apart within in
    let again : b - 128 + 128 ≡ b = omega arith in
    rw (e, no_ascii, found) (ap (λ n. Some n) again)

pub byte_in-char : (table : List ℕ) (b : ℕ) → length table ≡ 128 → all_apart table ≡ true → list_all (nat_le 128) table ≡ true → b < 256 → byte_in table (char_in table b) ≡ Some b
byte_in-char table b len apart high small = byte_in-char_by (nat_lt b 128) table b refl len apart high small

char_in-place : (o : Option ℕ) (table : List ℕ) (c b : ℕ) → position (λ x. x == c) table ≡ o → option_map (λ place. place + 128) o ≡ Some b → char_in table b ≡ c
char_in-place None table c b e h = absurd (cc)
char_in-place (Some place) table c b e h =
    let at : b ≡ place + 128 = cc in
    let same : get_or table place 0 ≡ c = eqb-true _ _ (position-Some (λ x. x == c) table place 0 e).1 in
    let no_ascii : nat_lt b 128 ≡ false = le-ltb b 128 (omega arith) in
    let back : b - 128 ≡ place = omega arith in
    rw (no_ascii, back) same

char_in-byte_by : (t : Bool) (table : List ℕ) (c b : ℕ) → nat_lt c 128 ≡ t → byte_in table c ≡ Some b → char_in table b ≡ c
char_in-byte_by true table c b e h =
    let same : c ≡ b = (let k = rw e at h in cc) in
    let ascii : nat_lt b 128 ≡ true = lt-ltb b 128 (let low = ltb-true c 128 e in omega arith) in
    rw ascii (sym same)
char_in-byte_by false table c b e h = char_in-place (position (λ x. x == c) table) table c b refl (rw e at h)

pub char_in-byte : (table : List ℕ) (c b : ℕ) → byte_in table c ≡ Some b → char_in table b ≡ c
char_in-byte table c b h = char_in-byte_by (nat_lt c 128) table c b refl h

-- a byte is written as the character that it is read as
pub mac_roman_byte-char : (b : ℕ) → b < 256 → mac_roman_byte (mac_roman_char b) ≡ Some b
unfolding mac_roman_byte mac_roman_char upper_characters
mac_roman_byte-char b small = byte_in-char upper_characters b refl refl refl small

-- a character is read from the byte that it is written as
pub mac_roman_char-byte : (c b : ℕ) → mac_roman_byte c ≡ Some b → mac_roman_char b ≡ c
unfolding mac_roman_byte mac_roman_char upper_characters
mac_roman_char-byte c b h = char_in-byte upper_characters c b h

pub if_byte-char : (o : Option ℕ) (c : ℕ) → o ≡ mac_roman_byte c → IfSome o (λ byte. mac_roman_char byte ≡ c)
if_byte-char None c e = tt
if_byte-char (Some b) c e = mac_roman_char-byte c b (sym e)

-- one more byte is one more character
pub mac_roman_text-push : (bytes : List ℕ) (b : ℕ) → mac_roman_text (bytes ++ b ∷ []) ≡ mac_roman_text bytes ++ encode_utf8 (mac_roman_char b)
mac_roman_text-push [] b = append-nil (encode_utf8 (mac_roman_char b))
mac_roman_text-push (x ∷ bytes) b = ap (λ rest. encode_utf8 (mac_roman_char x) ++ rest) (mac_roman_text-push bytes b) ∙ sym (append_assoc (encode_utf8 (mac_roman_char x)) (mac_roman_text bytes) (encode_utf8 (mac_roman_char b)))

pub mac_roman_text-more : (bytes : List ℕ) (i : ℕ) → i < length bytes → mac_roman_text (take (i + 1) bytes) ≡ mac_roman_text (take i bytes) ++ encode_utf8 (mac_roman_char (get_or bytes i 0))
mac_roman_text-more bytes i within = ap mac_roman_text (take_more bytes i 0 within) ∙ mac_roman_text-push (take i bytes) (get_or bytes i 0)

-- bytes of a long name make a text of a few times their length, with no zero byte
mac_roman_text-length : (bytes : List ℕ) → (length bytes ≤ length (mac_roman_text bytes)) × (length (mac_roman_text bytes) ≤ 4 * length bytes)
mac_roman_text-length [] = (omega arith, omega arith)
mac_roman_text-length (b ∷ bytes) =
    let rest = mac_roman_text-length bytes in
    let here : (1 ≤ length (encode_utf8 (mac_roman_char b))) × (length (encode_utf8 (mac_roman_char b)) ≤ 4) = rw (length-encode (mac_roman_char b)) (len_utf8_bounds (mac_roman_char b)) in
    let whole = length-append (encode_utf8 (mac_roman_char b)) (mac_roman_text bytes) in
    (omega (arith, rest.0, here.0, whole), omega (arith, rest.1, here.1, whole))

mac_roman_byte-zero : mac_roman_byte 0 ≡ Some 0
unfolding mac_roman_byte
mac_roman_byte-zero = refl

mac_roman_char-some : (b : ℕ) → b < 256 → (b ≡ 0 → ⊥) → mac_roman_char b ≡ 0 → ⊥
mac_roman_char-some b small some e =
    let back = mac_roman_byte-char b small in
    let none : Some b ≡ Some 0 = sym back ∙ (ap mac_roman_byte e ∙ mac_roman_byte-zero) in
    some (cc)

encode_no_zero : (c : ℕ) → (c ≡ 0 → ⊥) → list_any (λ byte. byte == 0) (encode_utf8 c) ≡ false
encode_no_zero c some =
    list_any_none (λ byte. byte == 0) (encode_utf8 c) (All-from_get_or (λ byte. (byte == 0) ≡ false) (encode_utf8 c) 0 (λ i within.
    ne_eqb (get_or (encode_utf8 c) i 0) 0 (λ e. some (inside_one c [] (encode_utf8 c) i (sym (append-nil (encode_utf8 c))) within (omega arith) ∙ e))))

mac_roman_text-no_zero : (bytes : List ℕ) → ((k : ℕ) → get_or bytes k 0 < 256) → list_any (λ byte. byte == 0) bytes ≡ false → list_any (λ byte. byte == 0) (mac_roman_text bytes) ≡ false
mac_roman_text-no_zero [] small none = refl
mac_roman_text-no_zero (b ∷ bytes) small none =
    let parts = or_parts (b == 0) (list_any (λ byte. byte == 0) bytes) none in
    let here = encode_no_zero (mac_roman_char b) (mac_roman_char-some b (small 0) (eqb-false b 0 parts.0)) in
    let rest = mac_roman_text-no_zero bytes (λ k. small (suc k)) parts.1 in
    rw (list_any-append (λ byte. byte == 0) (encode_utf8 (mac_roman_char b)) (mac_roman_text bytes), here) rest

-- what a name's type keeps, of the text of 1 to 31 bytes of the character set
pub mac_roman_text-name : (bytes : List ℕ) → ((k : ℕ) → get_or bytes k 0 < 256) → 0 < length bytes → length bytes ≤ longest_long_name → list_any (λ byte. byte == 0) bytes ≡ false → (0 < length (mac_roman_text bytes)) × (length (mac_roman_text bytes) ≤ longest_name) × (list_any (λ byte. byte == 0) (mac_roman_text bytes) ≡ false)
mac_roman_text-name bytes small some short none =
    let len = mac_roman_text-length bytes in
    (omega (arith, len.0), omega (arith, len.1), mac_roman_text-no_zero bytes small none)
