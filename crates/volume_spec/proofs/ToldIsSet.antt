-- A set call takes what FPGetFileDirParms tells.
use Rattle.std.proofs.Common.{◌==◌, ◌≡◌, ◌∙◌, ap, sym, refl, ℕ, ◌+◌, ◌≤◌, ◌<◌, ◌^◌, min, arith, ℤ, Bool, true, false, not, ◌||◌, cond, List, [], ◌∷◌, ◌++◌, length, take, drop, map, Some, None, FitsSigned, add-zero}
use Rattle.std.specs.Prelude.{bit_and, option_map, flat_map, nat_lt}
use Rattle.std.specs.Int.{bit_at, w32, cast_signed, cast_unsigned}
use Rattle.std.specs.List.{concat, filter, list_all}
use Rattle.std.proofs.Math.Seq.{drop-append_seam, take-append_seam}
use Rattle.std.proofs.lemmas.Bool.{and_parts, and_from, cond_both, cond-true, eqb-true, le-ltb, not-false, both_ways}
use Rattle.std.proofs.lemmas.List.{append-nil, append_assoc, length-append}
use Rattle.std.proofs.lemmas.Nat.Bits.{bit_at_and}
use Rattle.byteorder.specs.Endian.{big_bytes, big_number}
use Rattle.afp_base.proofs.Numbers.{number_again, length-big_bytes, date_lt, date_again}
use Rattle.afp_bitmap.specs.Bits.{is_asked, is_outside}
use Rattle.afp_bitmap.specs.Field.{Field, Number, Date, Finder, LongName, Utf8Name, fixed_bytes, name_parts}
use Rattle.afp_bitmap.specs.Params.{asked_of, name_size, fixed_parts, size_of_fixed_part, parts, params, IsAnswer}
use Rattle.afp_bitmap.specs.Table.{FieldRow, rows, file_rows, dir_rows}
use Rattle.afp_bitmap.specs.declared.file.FileValues.{FileValues}
use Rattle.afp_bitmap.specs.declared.directory.DirValues.{DirValues}
use Rattle.afp_bitmap.specs.declared.params.Values.TheVariants.{File, Dir}
use Rattle.volume_spec.specs.Parms.{date_in}
use Rattle.volume_spec.specs.SetFileDirParms.{rights_in, set_fields, asked_bytes, is_short_tail, field_in, settings_in, settable_bits, settable_dir_bits}
use Rattle.volume_spec.specs.ValueLaws.{settings_told}

-- fields that are no names stand one after the other, and nothing behind them

is-plain : Field → Bool
is-plain (Number n x) = true
is-plain (Date z) = true
is-plain (Finder info) = true
is-plain (LongName name) = false
is-plain (Utf8Name name) = false

plain-bytes : (place : ℕ) (f : Field) → is-plain f ≡ true → fixed_bytes place f ≡ fixed_bytes 0 f
unfolding is-plain
plain-bytes place (Number n x) h = refl
plain-bytes place (Date z) h = refl
plain-bytes place (Finder info) h = refl
plain-bytes place (LongName name) h = absurd (cc)
plain-bytes place (Utf8Name name) h = absurd (cc)

plain-names : (f : Field) → is-plain f ≡ true → name_parts f ≡ []
unfolding is-plain
plain-names (Number n x) h = refl
plain-names (Date z) h = refl
plain-names (Finder info) h = refl
plain-names (LongName name) h = absurd (cc)
plain-names (Utf8Name name) h = absurd (cc)

fixed-plain : (place : ℕ) (fs : List Field) → list_all is-plain fs ≡ true → concat (fixed_parts place fs) ≡ flat_map (fixed_bytes 0) fs
fixed-plain place [] h = refl
fixed-plain place (f ∷ fs) h =
    let e = and_parts (is-plain f) (list_all is-plain fs) h in
    λ i. plain-bytes place f e.0 i ++ fixed-plain (place + name_size f) fs e.1 i

names-plain : (fs : List Field) → list_all is-plain fs ≡ true → flat_map name_parts fs ≡ []
names-plain [] h = refl
names-plain (f ∷ fs) h =
    let e = and_parts (is-plain f) (list_all is-plain fs) h in
    λ i. plain-names f e.0 i ++ names-plain fs e.1 i

block-plain : (fs : List Field) → list_all is-plain fs ≡ true → concat (parts fs) ≡ flat_map (fixed_bytes 0) fs
block-plain fs h =
    ap (λ l. concat (fixed_parts (size_of_fixed_part fs) fs ++ l)) (names-plain fs h)
    ∙ ap concat (append-nil (fixed_parts (size_of_fixed_part fs) fs)) ∙ fixed-plain (size_of_fixed_part fs) fs h

-- what a row puts where it is asked
chunk : ℕ → FieldRow → List ℕ
chunk bits r = cond (is_asked bits r.0) (fixed_bytes 0 r.1) []

asked-plain : (bits : ℕ) (table : List FieldRow) → list_all (λ (r : FieldRow). not (is_asked bits r.0) || is-plain r.1) table ≡ true → list_all is-plain (asked_of bits table) ≡ true
unfolding asked_of
asked-plain bits [] h = refl
asked-plain bits (r ∷ table) h =
    let e = and_parts (not (is_asked bits r.0) || is-plain r.1) (list_all (λ (q : FieldRow). not (is_asked bits q.0) || is-plain q.1) table) h in
    let rest = asked-plain bits table e.1 in
    cond_both (is_asked bits r.0) (r ∷ filter (λ (q : FieldRow). is_asked bits q.0) table) (filter (λ (q : FieldRow). is_asked bits q.0) table) (λ l. list_all is-plain (map (λ (q : FieldRow). q.1) l) ≡ true)
    (λ asked. and_from (is-plain r.1) (list_all is-plain (asked_of bits table)) (ap (λ b. not b || is-plain r.1) (sym asked) ∙ e.0) rest)
    (λ other. rest)

asked-chunks : (bits : ℕ) (table : List FieldRow) → flat_map (fixed_bytes 0) (asked_of bits table) ≡ flat_map (chunk bits) table
unfolding asked_of chunk
asked-chunks bits [] = refl
asked-chunks bits (r ∷ table) =
    let rest = asked-chunks bits table in
    cond_both (is_asked bits r.0) (r ∷ filter (λ (q : FieldRow). is_asked bits q.0) table) (filter (λ (q : FieldRow). is_asked bits q.0) table)
    (λ l. flat_map (fixed_bytes 0) (map (λ (q : FieldRow). q.1) l) ≡ cond (is_asked bits r.0) (fixed_bytes 0 r.1) [] ++ flat_map (λ (q : FieldRow). cond (is_asked bits q.0) (fixed_bytes 0 q.1) []) table)
    (λ asked. (λ i. fixed_bytes 0 r.1 ++ rest i) ∙ ap (λ b. cond b (fixed_bytes 0 r.1) [] ++ flat_map (chunk bits) table) (sym asked))
    (λ other. rest ∙ ap (λ b. cond b (fixed_bytes 0 r.1) [] ++ flat_map (chunk bits) table) (sym other))

chunks : (bits : ℕ) (table : List FieldRow) → list_all (λ (r : FieldRow). not (is_asked bits r.0) || is-plain r.1) table ≡ true → concat (parts (asked_of bits table)) ≡ flat_map (chunk bits) table
chunks bits table h = block-plain (asked_of bits table) (asked-plain bits table h) ∙ asked-chunks bits table

-- a bit that no mask has is not asked
not_asked : (mask bits k : ℕ) → is_outside mask bits ≡ false → bit_at mask k ≡ 0 → is_asked bits k ≡ false
unfolding is_asked
not_asked mask bits k within none =
    let same : bit_and bits mask ≡ bits = eqb-true (bit_and bits mask) bits (not-false (bit_and bits mask == bits) within) in
    let at_mask : bit_at (bit_and bits mask) k ≡ min (bit_at bits k) (bit_at mask k) = bit_at_and bits mask k in
    let zero : bit_at bits k ≡ 0 = ap (λ n. bit_at n k) (sym same) ∙ at_mask ∙ ap (λ n. min (bit_at bits k) n) none ∙ none-left (bit_at bits k) in
    ap (λ n. n == 1) zero
  where
    none-left : (n : ℕ) → min n 0 ≡ 0
    none-left n = omega arith

-- reading pieces that stand one after the other where they are asked

abbrev pub if-asked : Bool → List ℕ → List ℕ
if-asked b piece = cond b piece []

size-asked : (b : Bool) (n : ℕ) (piece : List ℕ) → length piece ≡ n → length (if-asked b piece) ≡ cond b n 0
size-asked true n piece h = h
size-asked false n piece h = refl

piece-at : (place n : ℕ) (before piece behind : List ℕ) → length before ≡ place → length piece ≡ n → take n (drop place (before ++ (piece ++ behind))) ≡ piece
piece-at place n before piece behind b p =
    ap (λ k. take n (drop k (before ++ (piece ++ behind)))) (sym b)
    ∙ ap (λ l. take n l) (drop-append_seam before (piece ++ behind))
    ∙ ap (λ k. take k (piece ++ behind)) (sym p) ∙ take-append_seam piece behind

field-read : (b : Bool) (found piece : List ℕ) → (b ≡ true → found ≡ piece) → cond b (Some found) None ≡ cond b (Some piece) None
field-read true found piece h = ap (λ l. Some l) (h refl)
field-read false found piece h = refl

taken-as : {A : Type 0} (g : List ℕ → A) (b : Bool) (found piece : List ℕ) (x : A) → (b ≡ true → found ≡ piece) → g piece ≡ x → option_map g (cond b (Some found) None) ≡ cond b (Some x) None
taken-as g true found piece x h is = ap (λ l. Some (g l)) (h refl) ∙ ap (λ y. Some y) is
taken-as g false found piece x h is = refl

found-at : (b : Bool) (piece before behind tail : List ℕ) (place n : ℕ) → tail ≡ before ++ (if-asked b piece ++ behind) → length before ≡ place → length piece ≡ n → b ≡ true → take n (drop place tail) ≡ piece
found-at b piece before behind tail place n is l p asked =
    ap (λ t. take n (drop place t)) (is ∙ ap (λ k. before ++ (k ++ behind)) (cond-true b piece [] asked)) ∙ piece-at place n before piece behind l p

date-again : (z : ℤ) → FitsSigned w32 z → date_in (big_bytes 4 (cast_unsigned w32 z)) ≡ z
date-again z fits = ap (λ n. cast_signed w32 n) (number_again 4 (cast_unsigned w32 z) [] (date_lt z fits)) ∙ date_again z fits

-- fields by rising bit up to Finder info, one of which, the parent, is not asked, and more behind them
record Tail (bits : ℕ) (word : ℕ) (c m b : ℤ) (info parent behind tail : List ℕ) : Type 0 where
  no_parent : is_asked bits 1 ≡ false
  word_fits : word < 256 ^ 2
  c_fits : FitsSigned w32 c
  m_fits : FitsSigned w32 m
  b_fits : FitsSigned w32 b
  info_size : length info ≡ 32
  is : tail ≡ if-asked (is_asked bits 0) (big_bytes 2 word) ++ (if-asked (is_asked bits 1) parent ++ (if-asked (is_asked bits 2) (big_bytes 4 (cast_unsigned w32 c)) ++ (if-asked (is_asked bits 3) (big_bytes 4 (cast_unsigned w32 m))
      ++ (if-asked (is_asked bits 4) (big_bytes 4 (cast_unsigned w32 b)) ++ (if-asked (is_asked bits 5) info ++ behind)))))

-- where they stand
record Places (bits : ℕ) (k0 k1 k2 k3 k4 k5 : List ℕ) : Type 0 where
  one : length k0 ≡ cond (is_asked bits 0) 2 0
  two : length (k0 ++ k1) ≡ cond (is_asked bits 0) 2 0
  three : length ((k0 ++ k1) ++ k2) ≡ cond (is_asked bits 0) 2 0 + cond (is_asked bits 2) 4 0
  four : length (((k0 ++ k1) ++ k2) ++ k3) ≡ cond (is_asked bits 0) 2 0 + cond (is_asked bits 2) 4 0 + cond (is_asked bits 3) 4 0
  five : length ((((k0 ++ k1) ++ k2) ++ k3) ++ k4) ≡ cond (is_asked bits 0) 2 0 + cond (is_asked bits 2) 4 0 + cond (is_asked bits 3) 4 0 + cond (is_asked bits 4) 4 0
  six : length (((((k0 ++ k1) ++ k2) ++ k3) ++ k4) ++ k5) ≡ cond (is_asked bits 0) 2 0 + cond (is_asked bits 2) 4 0 + cond (is_asked bits 3) 4 0 + cond (is_asked bits 4) 4 0 + cond (is_asked bits 5) 32 0

places : (bits : ℕ) (k0 k1 k2 k3 k4 k5 : List ℕ) → length k0 ≡ cond (is_asked bits 0) 2 0 → length k1 ≡ 0 → length k2 ≡ cond (is_asked bits 2) 4 0 → length k3 ≡ cond (is_asked bits 3) 4 0 → length k4 ≡ cond (is_asked bits 4) 4 0 → length k5 ≡ cond (is_asked bits 5) 32 0
    → Places bits k0 k1 k2 k3 k4 k5
places bits k0 k1 k2 k3 k4 k5 l0 l1 l2 l3 l4 l5 =
    let two = length-append k0 k1 ∙ (λ i. l0 i + l1 i) ∙ add-zero (cond (is_asked bits 0) 2 0) in
    let three = length-append (k0 ++ k1) k2 ∙ (λ i. two i + l2 i) in
    let four = length-append ((k0 ++ k1) ++ k2) k3 ∙ (λ i. three i + l3 i) in
    let five = length-append (((k0 ++ k1) ++ k2) ++ k3) k4 ∙ (λ i. four i + l4 i) in
    record { one = l0; two = two; three = three; four = four; five = five; six = length-append ((((k0 ++ k1) ++ k2) ++ k3) ++ k4) k5 ∙ (λ i. five i + l5 i) }

none-before : (n : ℕ) → n ≡ 0 + n
none-before n = omega arith

tail-places : (bits word : ℕ) (c m b : ℤ) (info parent behind tail : List ℕ) → Tail bits word c m b info parent behind tail
    → Places bits (if-asked (is_asked bits 0) (big_bytes 2 word)) (if-asked (is_asked bits 1) parent) (if-asked (is_asked bits 2) (big_bytes 4 (cast_unsigned w32 c))) (if-asked (is_asked bits 3) (big_bytes 4 (cast_unsigned w32 m)))
    (if-asked (is_asked bits 4) (big_bytes 4 (cast_unsigned w32 b))) (if-asked (is_asked bits 5) info)
tail-places bits word c m b info parent behind tail t =
    places bits _ _ _ _ _ _
    (size-asked (is_asked bits 0) 2 (big_bytes 2 word) (length-big_bytes 2 word))
    (ap (λ q. length (if-asked q parent)) t.no_parent)
    (size-asked (is_asked bits 2) 4 (big_bytes 4 (cast_unsigned w32 c)) (length-big_bytes 4 (cast_unsigned w32 c)))
    (size-asked (is_asked bits 3) 4 (big_bytes 4 (cast_unsigned w32 m)) (length-big_bytes 4 (cast_unsigned w32 m)))
    (size-asked (is_asked bits 4) 4 (big_bytes 4 (cast_unsigned w32 b)) (length-big_bytes 4 (cast_unsigned w32 b)))
    (size-asked (is_asked bits 5) 32 info t.info_size)

-- what stands at the places of owner, group and access rights, where they are asked
abbrev place-of : ℕ → ℕ → ℕ
place-of bits bit = asked_bytes bits (filter (λ (field : ℕ × ℕ). nat_lt field.0 bit) set_fields)

record Owners (bits : ℕ) (owner group rights tail : List ℕ) : Type 0 where
  owner_at : is_asked bits 10 ≡ true → take 4 (drop (place-of bits 10) tail) ≡ owner
  group_at : is_asked bits 11 ≡ true → take 4 (drop (place-of bits 11) tail) ≡ group
  rights_at : is_asked bits 12 ≡ true → take 4 (drop (place-of bits 12) tail) ≡ rights

tail-reads : (bits word : ℕ) (c m b : ℤ) (info parent behind tail : List ℕ) → Tail bits word c m b info parent behind tail → (owner group rights : List ℕ) → Owners bits owner group rights tail
    → settings_in bits tail ≡ settings_told bits word c m b info (big_number 4 owner) (big_number 4 group) (rights_in rights)
unfolding settings_in field_in
tail-reads bits word c m b info parent behind tail t owner group rights o =
    let k0 : List ℕ = if-asked (is_asked bits 0) (big_bytes 2 word) in
    let k1 : List ℕ = if-asked (is_asked bits 1) parent in
    let p2 : List ℕ = big_bytes 4 (cast_unsigned w32 c) in
    let p3 : List ℕ = big_bytes 4 (cast_unsigned w32 m) in
    let p4 : List ℕ = big_bytes 4 (cast_unsigned w32 b) in
    let k2 : List ℕ = if-asked (is_asked bits 2) p2 in
    let k3 : List ℕ = if-asked (is_asked bits 3) p3 in
    let k4 : List ℕ = if-asked (is_asked bits 4) p4 in
    let k5 : List ℕ = if-asked (is_asked bits 5) info in
    let l = tail-places bits word c m b info parent behind tail t in
    let e1 : tail ≡ k0 ++ (k1 ++ (k2 ++ (k3 ++ (k4 ++ (k5 ++ behind))))) = t.is in
    let e2 : tail ≡ (k0 ++ k1) ++ (k2 ++ (k3 ++ (k4 ++ (k5 ++ behind)))) = e1 ∙ sym (append_assoc k0 k1 (k2 ++ (k3 ++ (k4 ++ (k5 ++ behind))))) in
    let e3 : tail ≡ ((k0 ++ k1) ++ k2) ++ (k3 ++ (k4 ++ (k5 ++ behind))) = e2 ∙ sym (append_assoc (k0 ++ k1) k2 (k3 ++ (k4 ++ (k5 ++ behind)))) in
    let e4 : tail ≡ (((k0 ++ k1) ++ k2) ++ k3) ++ (k4 ++ (k5 ++ behind)) = e3 ∙ sym (append_assoc ((k0 ++ k1) ++ k2) k3 (k4 ++ (k5 ++ behind))) in
    let e5 : tail ≡ ((((k0 ++ k1) ++ k2) ++ k3) ++ k4) ++ (k5 ++ behind) = e4 ∙ sym (append_assoc (((k0 ++ k1) ++ k2) ++ k3) k4 (k5 ++ behind)) in
    let f0 = taken-as (big_number 2) (is_asked bits 0) (take 2 (drop 0 tail)) (big_bytes 2 word) word
    (found-at (is_asked bits 0) (big_bytes 2 word) [] (k1 ++ (k2 ++ (k3 ++ (k4 ++ (k5 ++ behind))))) tail 0 2 e1 refl (length-big_bytes 2 word)) (number_again 2 word [] t.word_fits) in
    let f2 = taken-as date_in (is_asked bits 2) _ p2 c (found-at (is_asked bits 2) p2 (k0 ++ k1) (k3 ++ (k4 ++ (k5 ++ behind))) tail (asked_bytes bits ((0, 2) ∷ [])) 4 e2 (l.two ∙ none-before _) (length-big_bytes 4 (cast_unsigned w32 c))) (date-again c t.c_fits) in
    let f3 = taken-as date_in (is_asked bits 3) _ p3 m (found-at (is_asked bits 3) p3 ((k0 ++ k1) ++ k2) (k4 ++ (k5 ++ behind)) tail (asked_bytes bits ((0, 2) ∷ (2, 4) ∷ [])) 4 e3 (l.three ∙ ap (λ n. n + cond (is_asked bits 2) 4 0) (none-before (cond (is_asked bits 0) 2 0))) (length-big_bytes 4 (cast_unsigned w32 m))) (date-again m t.m_fits) in
    let f4 = taken-as date_in (is_asked bits 4) _ p4 b (found-at (is_asked bits 4) p4 (((k0 ++ k1) ++ k2) ++ k3) (k5 ++ behind) tail (asked_bytes bits ((0, 2) ∷ (2, 4) ∷ (3, 4) ∷ [])) 4 e4
    (l.four ∙ ap (λ n. n + cond (is_asked bits 2) 4 0 + cond (is_asked bits 3) 4 0) (none-before (cond (is_asked bits 0) 2 0))) (length-big_bytes 4 (cast_unsigned w32 b))) (date-again b t.b_fits) in
    let f5 = field-read (is_asked bits 5) _ info (found-at (is_asked bits 5) info ((((k0 ++ k1) ++ k2) ++ k3) ++ k4) behind tail (asked_bytes bits ((0, 2) ∷ (2, 4) ∷ (3, 4) ∷ (4, 4) ∷ [])) 32 e5
    (l.five ∙ ap (λ n. n + cond (is_asked bits 2) 4 0 + cond (is_asked bits 3) 4 0 + cond (is_asked bits 4) 4 0) (none-before (cond (is_asked bits 0) 2 0))) t.info_size) in
    let f10 = taken-as (big_number 4) (is_asked bits 10) (take 4 (drop (place-of bits 10) tail)) owner (big_number 4 owner) o.owner_at refl in
    let f11 = taken-as (big_number 4) (is_asked bits 11) (take 4 (drop (place-of bits 11) tail)) group (big_number 4 group) o.group_at refl in
    let f12 = taken-as rights_in (is_asked bits 12) (take 4 (drop (place-of bits 12) tail)) rights (rights_in rights) o.rights_at refl in
    λ i. record { attributes = f0 i; created = f2 i; modified = f3 i; backup = f4 i; finder = f5 i; owner = f10 i; group = f11 i; rights = f12 i }

-- the fields up to Finder info, and what is behind
whole : (bits word : ℕ) (c m b : ℤ) (info parent behind tail : List ℕ) → Tail bits word c m b info parent behind tail
    → tail ≡ (((((if-asked (is_asked bits 0) (big_bytes 2 word) ++ if-asked (is_asked bits 1) parent) ++ if-asked (is_asked bits 2) (big_bytes 4 (cast_unsigned w32 c))) ++ if-asked (is_asked bits 3) (big_bytes 4 (cast_unsigned w32 m)))
    ++ if-asked (is_asked bits 4) (big_bytes 4 (cast_unsigned w32 b))) ++ if-asked (is_asked bits 5) info) ++ behind
whole bits word c m b info parent behind tail t =
    let k0 : List ℕ = if-asked (is_asked bits 0) (big_bytes 2 word) in
    let k1 : List ℕ = if-asked (is_asked bits 1) parent in
    let k2 : List ℕ = if-asked (is_asked bits 2) (big_bytes 4 (cast_unsigned w32 c)) in
    let k3 : List ℕ = if-asked (is_asked bits 3) (big_bytes 4 (cast_unsigned w32 m)) in
    let k4 : List ℕ = if-asked (is_asked bits 4) (big_bytes 4 (cast_unsigned w32 b)) in
    let k5 : List ℕ = if-asked (is_asked bits 5) info in
    t.is ∙ sym (append_assoc k0 k1 (k2 ++ (k3 ++ (k4 ++ (k5 ++ behind))))) ∙ sym (append_assoc (k0 ++ k1) k2 (k3 ++ (k4 ++ (k5 ++ behind)))) ∙ sym (append_assoc ((k0 ++ k1) ++ k2) k3 (k4 ++ (k5 ++ behind)))
    ∙ sym (append_assoc (((k0 ++ k1) ++ k2) ++ k3) k4 (k5 ++ behind)) ∙ sym (append_assoc ((((k0 ++ k1) ++ k2) ++ k3) ++ k4) k5 behind)

-- such a tail is not short, if what is behind Finder info has the bytes of owner, group and access rights
tail-long : (bits word : ℕ) (c m b : ℤ) (info parent behind tail : List ℕ) → Tail bits word c m b info parent behind tail
    → cond (is_asked bits 10) 4 0 + cond (is_asked bits 11) 4 0 + cond (is_asked bits 12) 4 0 ≤ length behind → is_short_tail bits tail ≡ false
unfolding is_short_tail
tail-long bits word c m b info parent behind tail t more =
    let k0 : List ℕ = if-asked (is_asked bits 0) (big_bytes 2 word) in
    let k1 : List ℕ = if-asked (is_asked bits 1) parent in
    let k2 : List ℕ = if-asked (is_asked bits 2) (big_bytes 4 (cast_unsigned w32 c)) in
    let k3 : List ℕ = if-asked (is_asked bits 3) (big_bytes 4 (cast_unsigned w32 m)) in
    let k4 : List ℕ = if-asked (is_asked bits 4) (big_bytes 4 (cast_unsigned w32 b)) in
    let k5 : List ℕ = if-asked (is_asked bits 5) info in
    let l = tail-places bits word c m b info parent behind tail t in
    let size = ap length (whole bits word c m b info parent behind tail t) ∙ length-append (((((k0 ++ k1) ++ k2) ++ k3) ++ k4) ++ k5) behind ∙ ap (λ n. n + length behind) l.six in
    le-ltb (length tail) (asked_bytes bits set_fields) (enough _ _ _ _ _ _ _ _ (length behind) (length tail) size more)
  where
    enough : (s0 s2 s3 s4 s5 s10 s11 s12 z n : ℕ) → n ≡ s0 + s2 + s3 + s4 + s5 + z → s10 + s11 + s12 ≤ z → 0 + s0 + s2 + s3 + s4 + s5 + s10 + s11 + s12 ≤ n
    enough s0 s2 s3 s4 s5 s10 s11 s12 z n is h = omega arith

-- the blocks of files and of directories

plain-row : (b : Bool) → (not b || true) ≡ true
plain-row true = refl
plain-row false = refl

name-row : (b : Bool) → b ≡ false → (not b || false) ≡ true
name-row true h = absurd (cc)
name-row false h = refl

nested : (a b c d e f g rest : List ℕ) → (a ++ (b ++ (c ++ (d ++ (e ++ (f ++ g)))))) ++ rest ≡ a ++ (b ++ (c ++ (d ++ (e ++ (f ++ (g ++ rest))))))
nested a b c d e f g rest =
    append_assoc a (b ++ (c ++ (d ++ (e ++ (f ++ g))))) rest
    ∙ ap (λ l. a ++ l) (append_assoc b (c ++ (d ++ (e ++ (f ++ g)))) rest
    ∙ ap (λ l. b ++ l) (append_assoc c (d ++ (e ++ (f ++ g))) rest
    ∙ ap (λ l. c ++ l) (append_assoc d (e ++ (f ++ g)) rest
    ∙ ap (λ l. d ++ l) (append_assoc e (f ++ g) rest
    ∙ ap (λ l. e ++ l) (append_assoc f g rest)))))

file-plain : (bits : ℕ) (f : FileValues) → is_outside settable_bits bits ≡ false → list_all (λ (r : FieldRow). not (is_asked bits r.0) || is-plain r.1) (file_rows f) ≡ true
unfolding file_rows is-plain
file-plain bits f within =
    and_from _ _ (plain-row (is_asked bits 0)) (and_from _ _ (plain-row (is_asked bits 1)) (and_from _ _ (plain-row (is_asked bits 2)) (and_from _ _ (plain-row (is_asked bits 3))
    (and_from _ _ (plain-row (is_asked bits 4)) (and_from _ _ (plain-row (is_asked bits 5)) (and_from _ _ (name-row (is_asked bits 6) (not_asked settable_bits bits 6 within refl))
    (and_from _ _ (plain-row (is_asked bits 8)) (and_from _ _ (plain-row (is_asked bits 9)) (and_from _ _ (plain-row (is_asked bits 10)) (and_from _ _ (plain-row (is_asked bits 11))
    (and_from _ _ (name-row (is_asked bits 13) (not_asked settable_bits bits 13 within refl)) (and_from _ _ (plain-row (is_asked bits 14)) refl))))))))))))

file-tail : (bits : ℕ) (f : FileValues) (rest : List ℕ) → is_outside settable_bits bits ≡ false → IsAnswer 1 bits (File f)
    → Tail bits f.attributes f.created f.modified f.backup f.finder (big_bytes 4 f.parent) (flat_map (chunk bits) (drop 6 (file_rows f)) ++ rest) (params bits (File f) ++ rest)
unfolding rows file_rows chunk
file-tail bits f rest within answer =
    let t = answer.typed in
    record {
      no_parent = not_asked settable_bits bits 1 within refl;
      word_fits = t.0;
      c_fits = t.1.1.0;
      m_fits = t.1.1.1.0;
      b_fits = t.1.1.1.1.0;
      info_size = t.1.1.1.1.1.0;
      is = ap (λ l. l ++ rest) (chunks bits (file_rows f) (file-plain bits f within)) ∙ nested (chunk bits (0, Number 2 f.attributes)) (chunk bits (1, Number 4 f.parent)) (chunk bits (2, Date f.created)) (chunk bits (3, Date f.modified)) (chunk bits (4, Date f.backup)) (chunk bits (5, Finder f.finder))
          (flat_map (chunk bits) (drop 6 (file_rows f))) rest;
    }

pub file-told-is-set : (bits : ℕ) (f : FileValues) (rest : List ℕ) → is_outside settable_bits bits ≡ false → IsAnswer 1 bits (File f)
    → (is_short_tail bits (params bits (File f) ++ rest) ≡ false) × (settings_in bits (params bits (File f) ++ rest) ≡ settings_told bits f.attributes f.created f.modified f.backup f.finder 0 0 (rights_in []))
file-told-is-set bits f rest within answer =
    let t = file-tail bits f rest within answer in (
      tail-long bits f.attributes f.created f.modified f.backup f.finder _ _ _ t (none _ _ _ _
          (unset 10 (not_asked settable_bits bits 10 within refl)) (unset 11 (not_asked settable_bits bits 11 within refl)) (unset 12 (not_asked settable_bits bits 12 within refl))),
      tail-reads bits f.attributes f.created f.modified f.backup f.finder _ _ _ t [] [] []
          (record { owner_at = never 10 (not_asked settable_bits bits 10 within refl); group_at = never 11 (not_asked settable_bits bits 11 within refl); rights_at = never 12 (not_asked settable_bits bits 12 within refl) }),
    )
  where
    never : {A : Type 0} (k : ℕ) → is_asked bits k ≡ false → is_asked bits k ≡ true → A
    never k unasked asked = absurd (both_ways (is_asked bits k) unasked asked)

    size : ℕ → ℕ
    size k = cond (is_asked bits k) 4 0

    unset : (k : ℕ) → is_asked bits k ≡ false → size k ≡ 0
    unset k h = ap {B = ℕ} (λ b. cond b 4 0) h

    none : (a b c n : ℕ) → a ≡ 0 → b ≡ 0 → c ≡ 0 → a + b + c ≤ n
    none a b c n x y z = omega arith

dir-plain : (bits : ℕ) (d : DirValues) → is_outside settable_dir_bits bits ≡ false → list_all (λ (r : FieldRow). not (is_asked bits r.0) || is-plain r.1) (dir_rows d) ≡ true
unfolding dir_rows is-plain
dir-plain bits d within =
    and_from _ _ (plain-row (is_asked bits 0)) (and_from _ _ (plain-row (is_asked bits 1)) (and_from _ _ (plain-row (is_asked bits 2)) (and_from _ _ (plain-row (is_asked bits 3))
    (and_from _ _ (plain-row (is_asked bits 4)) (and_from _ _ (plain-row (is_asked bits 5)) (and_from _ _ (name-row (is_asked bits 6) (not_asked settable_dir_bits bits 6 within refl))
    (and_from _ _ (plain-row (is_asked bits 8)) (and_from _ _ (plain-row (is_asked bits 9)) (and_from _ _ (plain-row (is_asked bits 10)) (and_from _ _ (plain-row (is_asked bits 11))
    (and_from _ _ (plain-row (is_asked bits 12)) (and_from _ _ (name-row (is_asked bits 13) (not_asked settable_dir_bits bits 13 within refl)) refl))))))))))))

dir-tail : (bits : ℕ) (d : DirValues) (rest : List ℕ) → is_outside settable_dir_bits bits ≡ false → IsAnswer 2 bits (Dir d)
    → Tail bits d.attributes d.created d.modified d.backup d.finder (big_bytes 4 d.parent) (flat_map (chunk bits) (drop 6 (dir_rows d)) ++ rest) (params bits (Dir d) ++ rest)
unfolding rows dir_rows chunk
dir-tail bits d rest within answer =
    let t = answer.typed in
    record {
      no_parent = not_asked settable_dir_bits bits 1 within refl;
      word_fits = t.0;
      c_fits = t.1.1.0;
      m_fits = t.1.1.1.0;
      b_fits = t.1.1.1.1.0;
      info_size = t.1.1.1.1.1.0;
      is = ap (λ l. l ++ rest) (chunks bits (dir_rows d) (dir-plain bits d within)) ∙ nested (chunk bits (0, Number 2 d.attributes)) (chunk bits (1, Number 4 d.parent)) (chunk bits (2, Date d.created)) (chunk bits (3, Date d.modified)) (chunk bits (4, Date d.backup)) (chunk bits (5, Finder d.finder))
          (flat_map (chunk bits) (drop 6 (dir_rows d))) rest;
    }

-- owner, group and access rights have their bytes behind Finder info
dir-behind : (bits : ℕ) (d : DirValues) (rest : List ℕ) → cond (is_asked bits 10) 4 0 + cond (is_asked bits 11) 4 0 + cond (is_asked bits 12) 4 0 ≤ length (flat_map (chunk bits) (drop 6 (dir_rows d)) ++ rest)
unfolding dir_rows chunk
dir-behind bits d rest =
    let k6 : List ℕ = cond (is_asked bits 6) (fixed_bytes 0 (LongName d.long_name)) [] in
    let k8 : List ℕ = if-asked (is_asked bits 8) (big_bytes 4 d.id) in
    let k9 : List ℕ = if-asked (is_asked bits 9) (big_bytes 2 d.offspring) in
    let k10 : List ℕ = if-asked (is_asked bits 10) (big_bytes 4 d.owner) in
    let k11 : List ℕ = if-asked (is_asked bits 11) (big_bytes 4 d.group) in
    let k12 : List ℕ = if-asked (is_asked bits 12) (big_bytes 4 d.rights) in
    let k13 : List ℕ = cond (is_asked bits 13) (fixed_bytes 0 (Utf8Name d.utf8_name)) [] in
    let l10 = size-asked (is_asked bits 10) 4 (big_bytes 4 d.owner) (length-big_bytes 4 d.owner) in
    let l11 = size-asked (is_asked bits 11) 4 (big_bytes 4 d.group) (length-big_bytes 4 d.group) in
    let l12 = size-asked (is_asked bits 12) 4 (big_bytes 4 d.rights) (length-big_bytes 4 d.rights) in
    among k6 k8 k9 k10 k11 k12 (k13 ++ []) rest _ _ _ l10 l11 l12
  where
    among : (a b c x y z g rest : List ℕ) (p q r : ℕ) → length x ≡ p → length y ≡ q → length z ≡ r → p + q + r ≤ length ((a ++ (b ++ (c ++ (x ++ (y ++ (z ++ g)))))) ++ rest)
    among a b c x y z g rest p q r lx ly lz =
        let h1 = length-append (a ++ (b ++ (c ++ (x ++ (y ++ (z ++ g)))))) rest in
        let h2 = length-append a (b ++ (c ++ (x ++ (y ++ (z ++ g))))) in
        let h3 = length-append b (c ++ (x ++ (y ++ (z ++ g)))) in
        let h4 = length-append c (x ++ (y ++ (z ++ g))) in
        let h5 = length-append x (y ++ (z ++ g)) in
        let h6 = length-append y (z ++ g) in
        let h7 = length-append z g in
        omega (arith, h1, h2, h3, h4, h5, h6, h7, lx, ly, lz)

-- in the block of a directory they stand one behind another, right behind Finder info
dir-owners : (bits : ℕ) (d : DirValues) (rest : List ℕ) → is_outside settable_dir_bits bits ≡ false → (tail : List ℕ)
    → Tail bits d.attributes d.created d.modified d.backup d.finder (big_bytes 4 d.parent) (flat_map (chunk bits) (drop 6 (dir_rows d)) ++ rest) tail
    → Owners bits (big_bytes 4 d.owner) (big_bytes 4 d.group) (big_bytes 4 d.rights) tail
unfolding dir_rows chunk
dir-owners bits d rest within tail t =
    let p10 : List ℕ = big_bytes 4 d.owner in
    let p11 : List ℕ = big_bytes 4 d.group in
    let p12 : List ℕ = big_bytes 4 d.rights in
    let k10 : List ℕ = if-asked (is_asked bits 10) p10 in
    let k11 : List ℕ = if-asked (is_asked bits 11) p11 in
    let k12 : List ℕ = if-asked (is_asked bits 12) p12 in
    let k13 : List ℕ = cond (is_asked bits 13) (fixed_bytes 0 (Utf8Name d.utf8_name)) [] ++ [] in
    let front : List ℕ = ((((if-asked (is_asked bits 0) (big_bytes 2 d.attributes) ++ if-asked (is_asked bits 1) (big_bytes 4 d.parent)) ++ if-asked (is_asked bits 2) (big_bytes 4 (cast_unsigned w32 d.created)))
    ++ if-asked (is_asked bits 3) (big_bytes 4 (cast_unsigned w32 d.modified))) ++ if-asked (is_asked bits 4) (big_bytes 4 (cast_unsigned w32 d.backup))) ++ if-asked (is_asked bits 5) d.finder in
    let l = tail-places bits d.attributes d.created d.modified d.backup d.finder (big_bytes 4 d.parent) _ tail t in
    let more : List ℕ = k13 ++ rest in
    let no6 = not_asked settable_dir_bits bits 6 within refl in
    let no8 = not_asked settable_dir_bits bits 8 within refl in
    let no9 = not_asked settable_dir_bits bits 9 within refl in
    let behind = gone (is_asked bits 6) (is_asked bits 8) (is_asked bits 9) _ _ _ k10 k11 k12 k13 rest no6 no8 no9 in
    let e10 : tail ≡ front ++ (k10 ++ (k11 ++ (k12 ++ more))) = whole bits d.attributes d.created d.modified d.backup d.finder (big_bytes 4 d.parent) _ tail t ∙ ap (λ b. front ++ b) behind in
    let e11 : tail ≡ (front ++ k10) ++ (k11 ++ (k12 ++ more)) = e10 ∙ sym (append_assoc front k10 (k11 ++ (k12 ++ more))) in
    let e12 : tail ≡ ((front ++ k10) ++ k11) ++ (k12 ++ more) = e11 ∙ sym (append_assoc (front ++ k10) k11 (k12 ++ more)) in
    let s10 = size-asked (is_asked bits 10) 4 p10 (length-big_bytes 4 d.owner) in
    let s11 = size-asked (is_asked bits 11) 4 p11 (length-big_bytes 4 d.group) in
    let l10 : length front ≡ place-of bits 10 = l.six ∙ ap (λ n. n + cond (is_asked bits 2) 4 0 + cond (is_asked bits 3) 4 0 + cond (is_asked bits 4) 4 0 + cond (is_asked bits 5) 32 0) (none-before (cond (is_asked bits 0) 2 0)) in
    let l11 : length (front ++ k10) ≡ place-of bits 11 = length-append front k10 ∙ (λ i. l10 i + s10 i) in
    let l12 : length ((front ++ k10) ++ k11) ≡ place-of bits 12 = length-append (front ++ k10) k11 ∙ (λ i. l11 i + s11 i) in
    record {
      owner_at = found-at (is_asked bits 10) p10 front (k11 ++ (k12 ++ more)) tail (place-of bits 10) 4 e10 l10 (length-big_bytes 4 d.owner);
      group_at = found-at (is_asked bits 11) p11 (front ++ k10) (k12 ++ more) tail (place-of bits 11) 4 e11 l11 (length-big_bytes 4 d.group);
      rights_at = found-at (is_asked bits 12) p12 ((front ++ k10) ++ k11) more tail (place-of bits 12) 4 e12 l12 (length-big_bytes 4 d.rights);
    }
  where
    gone : (a b c : Bool) (p q r x y z g rest : List ℕ) → a ≡ false → b ≡ false → c ≡ false → (cond a p [] ++ (cond b q [] ++ (cond c r [] ++ (x ++ (y ++ (z ++ g)))))) ++ rest ≡ x ++ (y ++ (z ++ (g ++ rest)))
    gone true b c p q r x y z g rest h i j = absurd (cc)
    gone false true c p q r x y z g rest h i j = absurd (cc)
    gone false false true p q r x y z g rest h i j = absurd (cc)
    gone false false false p q r x y z g rest h i j = append_assoc x (y ++ (z ++ g)) rest ∙ ap (λ l. x ++ l) (append_assoc y (z ++ g) rest ∙ ap (λ l. y ++ l) (append_assoc z g rest))

pub dir-told-is-set : (bits : ℕ) (d : DirValues) (rest : List ℕ) → is_outside settable_dir_bits bits ≡ false → IsAnswer 2 bits (Dir d)
    → (is_short_tail bits (params bits (Dir d) ++ rest) ≡ false) × (settings_in bits (params bits (Dir d) ++ rest) ≡ settings_told bits d.attributes d.created d.modified d.backup d.finder d.owner d.group (rights_in (big_bytes 4 d.rights)))
unfolding rows dir_rows
dir-told-is-set bits d rest within answer =
    let t = dir-tail bits d rest within answer in
    let a = answer.typed in (
      tail-long bits d.attributes d.created d.modified d.backup d.finder _ _ _ t (dir-behind bits d rest),
      tail-reads bits d.attributes d.created d.modified d.backup d.finder _ _ _ t (big_bytes 4 d.owner) (big_bytes 4 d.group) (big_bytes 4 d.rights) (dir-owners bits d rest within _ t)
          ∙ (λ i. settings_told bits d.attributes d.created d.modified d.backup d.finder (number_again 4 d.owner [] a.1.1.1.1.1.1.1.1.1.0 i) (number_again 4 d.group [] a.1.1.1.1.1.1.1.1.1.1.0 i) (rights_in (big_bytes 4 d.rights))),
    )
