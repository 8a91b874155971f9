-- The descriptors of a file that is written, and what they name.
use Rattle.std.proofs.Common.{◌≡◌, ◌∙◌, ℕ, zero, suc, ◌+◌, ◌*◌, ◌^◌, ◌<◌, ◌≤◌, Bool, true, false, cond, List, [], ◌∷◌, ◌++◌, length, take, drop, map, refl, sym, ap, subst, arith, append_assoc, inl, inr}
use Rattle.std.specs.Prelude.{Option, Some, None, ◌&&◌, ◌||◌, ◌==◌, nat_lt, is_none, is_some}
use Rattle.std.specs.List.{find, range_with_len}
use Rattle.std.proofs.Math.Seq.{take-append_seam, drop-append_seam}
use Rattle.std.proofs.lemmas.List.{drop-drop, length-append}
use Rattle.std.proofs.lemmas.List.FromFn.{map-range_with_len_more}
use Rattle.std.proofs.lemmas.Bool.{le-ltb, cases_order}
use Rattle.byteorder.specs.Endian.{big_number, big_bytes}
use Rattle.afp_base.proofs.Numbers.{number_again}
use Rattle.apple_double.specs.declared.descriptor.Descriptor.{Descriptor}
use Rattle.apple_double.specs.Contents.{name_in, name_id, dates_id, finder_id, dates_size, finder_size, is_read}
use Rattle.apple_double.specs.Faults.{is_bad_content, is_bad_entry}
use Rattle.apple_double.specs.Format.{number_at, descriptor_at, descriptor_from, with_id, slice_of, slice_of_any}
use Rattle.apple_double.specs.Written.{Entry, described, descriptor_bytes, contents}

-- the descriptor of an entry whose bytes stand from an offset on
abbrev pub one_placed : ℕ → Entry → Descriptor
one_placed o e = record { id = e.id; offset = o; size = length e.bytes }

abbrev pub placed : ℕ → List Entry → List Descriptor
placed o [] = []
placed o (e ∷ es) = one_placed o e ∷ placed (o + length e.bytes) es

-- each id fits its four bytes
abbrev pub Small : List Entry → Type 0
Small [] = Unit {0}
Small (e ∷ es) = (e.id < 2 ^ 32) × Small es

-- a descriptor that stands at a place
one-read : (bytes rest : List ℕ) (place id offset size : ℕ) → drop place bytes ≡ descriptor_bytes id offset size ++ rest → id < 2 ^ 32 → offset < 2 ^ 32 → size < 2 ^ 32
    → descriptor_from place bytes ≡ record { id = id; offset = offset; size = size }
unfolding number_at descriptor_bytes
one-read bytes rest place id offset size at i o s =
    let first : big_number 4 (drop place bytes) ≡ id = ap (λ (z : List ℕ). big_number 4 z) at ∙ number_again 4 id (big_bytes 4 offset ++ big_bytes 4 size ++ rest) i in
    let behind4 : drop (place + 4) bytes ≡ big_bytes 4 offset ++ (big_bytes 4 size ++ rest) = sym (drop-drop 4 place bytes) ∙ ap (λ (z : List ℕ). drop 4 z) at in
    let behind8 : drop (place + 8) bytes ≡ big_bytes 4 size ++ rest = sym (drop-drop 8 place bytes) ∙ ap (λ (z : List ℕ). drop 8 z) at in
    let second : big_number 4 (drop (place + 4) bytes) ≡ offset = ap (λ (z : List ℕ). big_number 4 z) behind4 ∙ number_again 4 offset (big_bytes 4 size ++ rest) o in
    let third : big_number 4 (drop (place + 8) bytes) ≡ size = ap (λ (z : List ℕ). big_number 4 z) behind8 ∙ number_again 4 size rest s in
    cc

one-behind : (bytes rest : List ℕ) (place id offset size : ℕ) → drop place bytes ≡ descriptor_bytes id offset size ++ rest → drop (place + 12) bytes ≡ rest
unfolding descriptor_bytes
one-behind bytes rest place id offset size at = sym (drop-drop 12 place bytes) ∙ ap (λ (z : List ℕ). drop 12 z) at

pub all-placed : (bytes : List ℕ) (k o : ℕ) (es : List Entry) (tail : List ℕ) → drop (26 + 12 * k) bytes ≡ described o es ++ tail → Small es → o + length (contents es) < 2 ^ 32
    → map (descriptor_at bytes) (range_with_len k (length es)) ≡ placed o es
all-placed bytes k o [] tail at small fits = refl
all-placed bytes k o (e ∷ es) tail at small fits =
    let size : length (contents (e ∷ es)) ≡ length e.bytes + length (contents es) = length-append e.bytes (contents es) in
    let here : drop (26 + 12 * k) bytes ≡ descriptor_bytes e.id o (length e.bytes) ++ (described (o + length e.bytes) es ++ tail) =
    at ∙ append_assoc (descriptor_bytes e.id o (length e.bytes)) (described (o + length e.bytes) es) tail in
    let rest : List ℕ = described (o + length e.bytes) es ++ tail in
    let low : o < 2 ^ 32 = omega (arith, size, fits) in
    let short : length e.bytes < 2 ^ 32 = omega (arith, size, fits) in
    let head = one-read bytes rest (26 + 12 * k) e.id o (length e.bytes) here small.0 low short in
    let place : 26 + 12 * k + 12 ≡ 26 + 12 * (k + 1) = omega arith in
    let more : drop (26 + 12 * (k + 1)) bytes ≡ rest = ap (λ (n : ℕ). drop n bytes) (sym place) ∙ one-behind bytes rest (26 + 12 * k) e.id o (length e.bytes) here in
    let below : (o + length e.bytes) + length (contents es) < 2 ^ 32 = omega (arith, size, fits) in
    let others = all-placed bytes (k + 1) (o + length e.bytes) es tail more small.1 below in
    ap (λ (d : Descriptor). d ∷ map (descriptor_at bytes) (range_with_len (k + 1) (length es))) head ∙ ap (λ (ds : List Descriptor). one_placed o e ∷ ds) others

-- the bytes of an entry that is found
abbrev pub bytes_of : Option Entry → List ℕ
bytes_of None = []
bytes_of (Some e) = e.bytes

abbrev pub entry_with : ℕ → List Entry → Option Entry
entry_with id es = find (λ e. e.id == id) es

slice-one : (bytes first rest : List ℕ) (o : ℕ) → drop o bytes ≡ first ++ rest → take (length first) (drop o bytes) ≡ first
slice-one bytes first rest o at = ap (λ (z : List ℕ). take (length first) z) at ∙ take-append_seam first rest

slice-rest : (bytes first rest : List ℕ) (o : ℕ) → drop o bytes ≡ first ++ rest → drop (o + length first) bytes ≡ rest
slice-rest bytes first rest o at = sym (drop-drop (length first) o bytes) ∙ ap (λ (z : List ℕ). drop (length first) z) at ∙ drop-append_seam first rest

pick_same : (b : Bool) (bytes : List ℕ) (d : Descriptor) (e : Entry) (ds : Option Descriptor) (es : Option Entry) → slice_of bytes d ≡ e.bytes → slice_of_any bytes ds ≡ bytes_of es
    → slice_of_any bytes (cond b (Some d) ds) ≡ bytes_of (cond b (Some e) es)
pick_same true bytes d e ds es same rest = same
pick_same false bytes d e ds es same rest = rest

pub slices : (bytes : List ℕ) (o id : ℕ) (es : List Entry) → drop o bytes ≡ contents es → slice_of_any bytes (with_id id (placed o es)) ≡ bytes_of (entry_with id es)
slices bytes o id [] at = refl
slices bytes o id (e ∷ es) at =
    pick_same (e.id == id) bytes (one_placed o e) e (with_id id (placed (o + length e.bytes) es)) (entry_with id es)
    (slice-one bytes e.bytes (contents es) o at)
    (slices bytes (o + length e.bytes) id es (slice-rest bytes e.bytes (contents es) o at))

-- no entry is bad, of those that stand behind some
abbrev pub none_bad : List ℕ → List Descriptor → List Descriptor → Type 0
none_bad bytes earlier [] = Unit {0}
none_bad bytes earlier (d ∷ ds) = (is_bad_entry bytes earlier d ≡ false) × none_bad bytes (earlier ++ d ∷ []) ds

pub each-good : (bytes : List ℕ) (g : ℕ → Descriptor) (k n : ℕ) → none_bad bytes (map g (range_with_len 0 k)) (map g (range_with_len k n))
    → (j : ℕ) → k ≤ j → j < k + n → is_bad_entry bytes (map g (range_with_len 0 j)) (g j) ≡ false
each-good bytes g k zero h j lo hi = absurd (omega arith)
each-good bytes g k (suc n) h j lo hi =
    elim (cases_order k j) [
      | inl same ↦ let P : ℕ → Type 0 = λ x. is_bad_entry bytes (map g (range_with_len 0 x)) (g x) ≡ false in subst P same h.0
      | inr (inl less) ↦ let P : List Descriptor → Type 0 = λ ds. none_bad bytes ds (map g (range_with_len (k + 1) n)) in
          each-good bytes g (k + 1) n (subst P (sym (map-range_with_len_more g 0 k k (omega arith))) h.1) j (omega arith) (omega arith)
      | inr (inr more) ↦ absurd (omega arith)
    ]

-- an entry whose bytes are what its id asks for
abbrev pub is_bad : ℕ → List ℕ → Bool
is_bad id bytes = (id == dates_id && nat_lt (length bytes) dates_size) || (id == finder_id && nat_lt (length bytes) finder_size) || (id == name_id && is_none (name_in bytes))

abbrev pub Good : List Descriptor → ℕ → List Entry → Type 0
Good earlier o [] = Unit {0}
Good earlier o (e ∷ es) = (with_id e.id earlier ≡ None) × (is_bad e.id e.bytes ≡ false) × Good (earlier ++ one_placed o e ∷ []) (o + length e.bytes) es

not_bad : (read : Bool) (bytes : List ℕ) (size offset : ℕ) (content : Bool) (earlier : Option Descriptor) → earlier ≡ None → offset + size ≤ length bytes → content ≡ false
    → (read && (is_some earlier || nat_lt (length bytes) (offset + size) || content)) ≡ false
not_bad true bytes size offset content earlier none fits good = rw (none, good, le-ltb (length bytes) (offset + size) fits) refl
not_bad false bytes size offset content earlier none fits good = refl

pub all-good : (bytes : List ℕ) (o : ℕ) (es : List Entry) (earlier : List Descriptor) → drop o bytes ≡ contents es → o + length (contents es) ≤ length bytes → Good earlier o es → none_bad bytes earlier (placed o es)
all-good bytes o [] earlier at fits good = tt
all-good bytes o (e ∷ es) earlier at fits good =
    let size : length (contents (e ∷ es)) ≡ length e.bytes + length (contents es) = length-append e.bytes (contents es) in
    let slice : slice_of bytes (one_placed o e) ≡ e.bytes = slice-one bytes e.bytes (contents es) o at in
    let content : is_bad_content bytes (one_placed o e) ≡ false =
    ap (λ (z : List ℕ). (e.id == dates_id && nat_lt (length e.bytes) dates_size) || (e.id == finder_id && nat_lt (length e.bytes) finder_size) || (e.id == name_id && is_none (name_in z))) slice ∙ good.1 in
    let within : o + length e.bytes ≤ length bytes = omega (arith, size, fits) in
    let below : (o + length e.bytes) + length (contents es) ≤ length bytes = omega (arith, size, fits) in (
      not_bad (is_read e.id) bytes (length e.bytes) o (is_bad_content bytes (one_placed o e)) (with_id e.id earlier) good.0 within content,
      all-good bytes (o + length e.bytes) es (earlier ++ one_placed o e ∷ []) (slice-rest bytes e.bytes (contents es) o at) below good.2,
    )
