-- Where an extension begins, and how long the parts of a shortened name are.
use Rattle.std.proofs.Common.{◌≡◌, ℕ, suc, zero, ◌<◌, ◌≤◌, ◌+◌, ◌-◌, ◌/◌, ◌%◌, ◌^◌, ◌*◌, ◌==◌, ◌&&◌, Bool, true, false, not, nat_lt, nat_le, min, is_some, chars, List, [], ◌∷◌, ◌++◌, length, take, drop, map, get_or, Option, Some, None, MatchOption, IfSome, IfNone, if◌then◌else◌, refl, sym, ◌∙◌, ap, pow-suc, arith}
use Rattle.std.specs.List.{suffix_len, before_last, after_last, list_all}
use Rattle.std.specs.Fmt.{digits, digits_onto, digit_glyph}
use Rattle.std.proofs.lemmas.Bool.{ne_eqb, eq-eqb, and_parts, leb-true, ltb-true}
use Rattle.std.proofs.lemmas.List.{length-take-le, length-take, length-drop, length-map, length-append, take_min, append_assoc, drop_more}
use Rattle.std.proofs.lemmas.List.Sums.{suffix_len_is, suffix_len-le-length}
use Rattle.afp_names.specs.LongName.{shown_byte, is_long_name, is_extension, extension_of, stem_of, ending_of, shortened, long_name_of, longest_long_name}
use Rattle.afp_names.specs.MacRoman.{mac_roman_byte}
use Rattle.unicode_normalization.specs.Forms.{nfc, Nfc}
use Rattle.unicode_normalization.proofs.FormsLemmas.{normalize-ascii}
use Rattle.std.specs.Str.{IsAscii}
use Rattle.std.proofs.lemmas.Bool.{lt-ltb}
use Rattle.std.proofs.lemmas.Bool.Decides.{nat_tests}
use Rattle.std.proofs.lemmas.List.Elements.{All-from_get_or}
use Rattle.std.proofs.lemmas.Str.{chars-IsAscii}
use Rattle.std.specs.Char.{is_ascii_alphanumeric}

-- no place from n on is a `.`
abbrev pub NoDotFrom : List ℕ → ℕ → Type 0
NoDotFrom text n = (k : ℕ) → n ≤ k → k < length text → get_or text k 0 ≡ 46 → ⊥

no_dots : (text : List ℕ) (n : ℕ) → n ≤ length text → NoDotFrom text n → (0 < n → get_or text (n - 1) 0 ≡ 46) → suffix_len (λ c. not (c == 46)) text ≡ length text - n
no_dots text n within none at =
    suffix_len_is (λ c. not (c == 46)) text n 0 within (λ k from below. rw (ne_eqb (get_or text k 0) 46 (none k from below)) refl) (λ some. rw (eq-eqb (get_or text (n - 1) 0) 46 (at some)) refl)

pub suffix_len-no_dot : (text : List ℕ) → NoDotFrom text 0 → suffix_len (λ c. not (c == 46)) text ≡ length text
suffix_len-no_dot text none = no_dots text 0 (omega arith) none (λ some. absurd (omega arith)) ∙ omega arith

pub suffix_len-dot : (text : List ℕ) (dot : ℕ) → dot < length text → get_or text dot 0 ≡ 46 → NoDotFrom text (dot + 1) → suffix_len (λ c. not (c == 46)) text ≡ length text - (dot + 1)
suffix_len-dot text dot within at none =
    let place : dot + 1 - 1 ≡ dot = omega arith in
    no_dots text (dot + 1) (omega arith) none (λ some. rw place at)

-- what a search for the last `.` has found
pub last_dot-none : (text : List ℕ) (n : ℕ) (dot : Option ℕ) → length text ≤ n → MatchOption dot ((k : ℕ) → k < n → get_or text k 0 ≡ 46 → ⊥) (λ place. (place < n) × (get_or text place 0 ≡ 46) × ((k : ℕ) → place < k → k < n → get_or text k 0 ≡ 46 → ⊥)) → IfNone dot (suffix_len (λ c. not (c == 46)) text ≡ length text)
last_dot-none text n None all h = suffix_len-no_dot text (λ k from below. h k (omega arith))
last_dot-none text n (Some place) all h = tt

pub last_dot-some : (text : List ℕ) (n : ℕ) (dot : Option ℕ) → n ≡ length text → MatchOption dot ((k : ℕ) → k < n → get_or text k 0 ≡ 46 → ⊥) (λ place. (place < n) × (get_or text place 0 ≡ 46) × ((k : ℕ) → place < k → k < n → get_or text k 0 ≡ 46 → ⊥)) → IfSome dot (λ place. (place < length text) × (suffix_len (λ c. not (c == 46)) text ≡ length text - (place + 1)))
last_dot-some text n None all h = tt
last_dot-some text n (Some place) all h =
    let within : place < length text = omega (arith, h.0) in
    (within, suffix_len-dot text place within h.1 (λ k from below. h.2 k (omega arith) (omega arith)))

pub extension_of-none : (text : List ℕ) → suffix_len (λ c. not (c == 46)) text ≡ length text → extension_of text ≡ []
unfolding extension_of
extension_of-none text e =
    let start : length text - length text - 1 ≡ 0 = omega arith in
    rw (e, start) refl

pub extension_of-dot : (text : List ℕ) (dot : ℕ) → dot < length text → get_or text dot 0 ≡ 46 → suffix_len (λ c. not (c == 46)) text ≡ length text - (dot + 1) → extension_of text ≡ (if nat_lt 0 dot && is_extension (drop (dot + 1) text) then drop dot text else [])
unfolding extension_of
extension_of-dot text dot within at e =
    let first : length text - (length text - (dot + 1)) - 1 ≡ dot = omega arith in
    let behind : length text - (length text - (dot + 1)) ≡ dot + 1 = omega arith in
    let before : length (take dot text) ≡ dot = length-take-le dot text (omega arith) in
    let whole : 46 ∷ drop (dot + 1) text ≡ drop dot text = sym (drop_more text dot 0 within ∙ ap (λ c. c ∷ drop (dot + 1) text) at) in
    rw (e, first, behind, before, whole) refl

length-digits_step : (t : Bool) (k fuel n : ℕ) (upper : Bool) (acc : List ℕ) → (n / 16 == 0) ≡ t → n < 16 ^ suc (suc k) → suc k < suc fuel → ((d : ℕ) → n / 16 < 16 ^ suc k → length (digits_onto fuel 16 upper (n / 16) (d ∷ acc)) ≤ suc k + length (d ∷ acc)) → length (digits_onto (suc fuel) 16 upper n acc) ≤ suc (suc k) + length acc
length-digits_step true k fuel n upper acc e small more rest = rw e (omega arith)
length-digits_step false k fuel n upper acc e small more rest =
    let power : 16 ^ suc (suc k) ≡ 16 ^ suc k * 16 = pow-suc 16 (suc k) in
    let fits : n / 16 < 16 ^ suc k = omega (arith, power) in
    let shorter = rest (digit_glyph upper (n % 16)) fits in
    rw e (omega (arith, shorter))

-- digits in base 16 of a number below 16 ^ k
length-digits_onto : (k fuel n : ℕ) (upper : Bool) (acc : List ℕ) → n < 16 ^ suc k → k < fuel → length (digits_onto fuel 16 upper n acc) ≤ suc k + length acc
length-digits_onto k zero n upper acc small fuel = absurd (omega arith)
length-digits_onto zero (suc fuel) n upper acc small more =
    let last : n / 16 ≡ 0 = omega arith in
    rw last (omega arith)
length-digits_onto (suc k) (suc fuel) n upper acc small more = length-digits_step (n / 16 == 0) k fuel n upper acc refl small more (λ d fits. length-digits_onto k fuel (n / 16) upper (d ∷ acc) fits (omega arith))

pub length-hexadecimal : (n : ℕ) → n < 2 ^ 32 → length (digits 16 true n) ≤ 8
unfolding digits
length-hexadecimal n small = length-digits_onto 7 64 n true [] small (omega arith)

-- an extension has at most 5 characters, and is the end of its text
extension_by : (t : Bool) (text behind : List ℕ) → behind ≡ after_last (λ c. c == 46) text → (nat_lt 0 (length (before_last (λ c. c == 46) text)) && is_extension behind) ≡ t → (length (extension_of text) ≤ 5) × (length (extension_of text) ≤ length text)
unfolding extension_of is_extension
extension_by false text behind e h = let h' = rw e at h in rw h' (omega arith, omega arith)
extension_by true text behind e h =
    let h' = rw e at h in
    let parts = and_parts (nat_lt 0 (length (before_last (λ c. c == 46) text))) (is_extension (after_last (λ c. c == 46) text)) h' in
    let inner = and_parts (nat_lt 0 (length (after_last (λ c. c == 46) text))) (nat_le (length (after_last (λ c. c == 46) text)) 4 && list_all is_ascii_alphanumeric (after_last (λ c. c == 46) text)) parts.1 in
    let short : length (after_last (λ c. c == 46) text) ≤ 4 = leb-true _ _ (and_parts (nat_le (length (after_last (λ c. c == 46) text)) 4) (list_all is_ascii_alphanumeric (after_last (λ c. c == 46) text)) inner.1).0 in
    let some : 0 < length (before_last (λ c. c == 46) text) = ltb-true _ _ parts.0 in
    let before = length-take (length text - suffix_len (λ c. not (c == 46)) text - 1) text in
    let behind' = length-drop (length text - suffix_len (λ c. not (c == 46)) text) text in
    let within = suffix_len-le-length (λ c. not (c == 46)) text in
    rw h' (omega (arith, short), omega (arith, some, before, behind', within))

pub length-extension_of : (text : List ℕ) → (length (extension_of text) ≤ 5) × (length (extension_of text) ≤ length text)
length-extension_of text = extension_by (nat_lt 0 (length (before_last (λ c. c == 46) text)) && is_extension (after_last (λ c. c == 46) text)) text (after_last (λ c. c == 46) text) refl refl

pub length-ending_of : (text : List ℕ) (id : ℕ) → id < 2 ^ 32 → length (ending_of text id) ≤ 14
unfolding ending_of
length-ending_of text id small =
    let digits' = length-hexadecimal id small in
    let end = length-map (extension_of text) shown_byte in
    let short = (length-extension_of text).0 in
    let whole = length-append (35 ∷ digits 16 true id) (map shown_byte (extension_of text)) in
    omega (arith, digits', end, short, whole)

pub length-shortened : (text : List ℕ) (id : ℕ) → id < 2 ^ 32 → length (shortened text id) ≤ longest_long_name
unfolding shortened
length-shortened text id small =
    let end = length-ending_of text id small in
    let front = length-map (take (longest_long_name - length (ending_of text id)) (stem_of text)) shown_byte in
    let cut = length-take (longest_long_name - length (ending_of text id)) (stem_of text) in
    let whole = length-append (map shown_byte (take (longest_long_name - length (ending_of text id)) (stem_of text))) (ending_of text id) in
    omega (arith, end, front, cut, whole)

length-long_by : (t : Bool) (text : List ℕ) (id : ℕ) → is_long_name text ≡ t → id < 2 ^ 32 → length (if is_long_name text then map shown_byte text else shortened text id) ≤ longest_long_name
unfolding is_long_name
length-long_by true text id e small =
    let short : length text ≤ longest_long_name = leb-true _ _ (and_parts (nat_le (length text) longest_long_name) (list_all (λ c. is_some (mac_roman_byte c)) text) e).0 in
    let same = length-map text shown_byte in
    rw e (omega (arith, short, same))
length-long_by false text id e small = rw e (length-shortened text id small)

pub length-long_name_of : (name : List ℕ) (id : ℕ) → id < 2 ^ 32 → length (long_name_of name id) ≤ longest_long_name
unfolding long_name_of
length-long_name_of name id small = length-long_by (is_long_name (nfc (chars name))) (nfc (chars name)) id refl small

-- the parts that are put together
pub ending_of-parts : (text : List ℕ) (id : ℕ) (a b d e out : List ℕ) → a ≡ [] ++ 35 ∷ [] → d ≡ digits 16 true id → b ≡ a ++ d → e ≡ extension_of text → out ≡ b ++ map shown_byte e → out ≡ ending_of text id
unfolding ending_of
ending_of-parts text id a b d e out ea ed eb ee eo = rw (eo, eb, ea, ed, ee) refl

pub shortened-parts : (text : List ℕ) (id n : ℕ) (ext ending stem long put out : List ℕ) → ext ≡ extension_of text → ending ≡ ending_of text id → stem ≡ take (length text - length ext) text → n ≡ min (longest_long_name - length ending) (length stem) → put ≡ long ++ map shown_byte (take n stem) → out ≡ put ++ ending → out ≡ long ++ shortened text id
unfolding shortened stem_of
shortened-parts text id n ext ending stem long put out eext eend estem en eput eout =
    let cut : take n stem ≡ take (longest_long_name - length (ending_of text id)) (take (length text - length (extension_of text)) text) = rw (en, take_min (longest_long_name - length ending) stem, estem, eext, eend) refl in
    rw (eout, eput, cut, eend) (append_assoc long _ _)

-- a short ASCII name is its own long name
shown_byte-ascii : (c : ℕ) → c < 128 → shown_byte c ≡ c
unfolding shown_byte mac_roman_byte
shown_byte-ascii c small = let e : nat_lt c 128 ≡ true = lt-ltb c 128 small in rw e refl

has_byte-ascii : (c : ℕ) → c < 128 → is_some (mac_roman_byte c) ≡ true
unfolding mac_roman_byte
has_byte-ascii c small = let e : nat_lt c 128 ≡ true = lt-ltb c 128 small in rw e refl

shown-ascii : (cs : List ℕ) → IsAscii cs → map shown_byte cs ≡ cs
shown-ascii [] all = refl
shown-ascii (c ∷ cs) all = ap (λ (b : ℕ). b ∷ map shown_byte cs) (shown_byte-ascii c (all 0)) ∙ ap (λ (bs : List ℕ). c ∷ bs) (shown-ascii cs (λ i. all (suc i)))

have_bytes-ascii : (cs : List ℕ) → IsAscii cs → list_all (λ c. is_some (mac_roman_byte c)) cs ≡ true
have_bytes-ascii [] all = refl
have_bytes-ascii (c ∷ cs) all = rw (has_byte-ascii c (all 0), have_bytes-ascii cs (λ i. all (suc i))) refl

is_long_name-ascii : (cs : List ℕ) → IsAscii cs → length cs ≤ longest_long_name → is_long_name cs ≡ true
unfolding is_long_name
is_long_name-ascii cs all short =
    let few : nat_le (length cs) longest_long_name ≡ true = grind (arith, nat_tests) in
    rw (few, have_bytes-ascii cs all) refl

pub ascii_long_name : (name : List ℕ) (id : ℕ) → IsAscii name → length name ≤ longest_long_name → long_name_of name id ≡ name
unfolding long_name_of
ascii_long_name name id all short =
    let text : nfc (chars name) ≡ name = ap nfc (chars-IsAscii name all) ∙ normalize-ascii Nfc name (All-from_get_or (λ c. c < 128) name 0 (λ i _. all i)) in
    let long : is_long_name name ≡ true = is_long_name-ascii name all short in
    ap (λ (t : List ℕ). if is_long_name t then map shown_byte t else shortened t id) text ∙ rw long (shown-ascii name all)
