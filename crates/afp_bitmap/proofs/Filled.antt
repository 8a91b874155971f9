-- The values that a block shows, put back into the rows of a table.
use Rattle.std.proofs.Common.{◌≡◌, ℕ, ◌^◌, ◌<◌, ◌≤◌, ℤ, Bool, true, false, cond, leb, List, [], ◌∷◌, ◌++◌, length, take, drop, map, replicate, None, refl, sym, ap, ◌∙◌, arith, w32, inl, inr}
use Rattle.std.specs.Prelude.{MatchBool}
use Rattle.std.specs.List.{concat, AllByRecursion}
use Rattle.std.specs.Int.{cast_signed, cast_unsigned}
use Rattle.std.proofs.lemmas.Bool.{cases_Bool, cases_lt, le-leb, lt-leb, MatchBool-at_false}
use Rattle.std.proofs.lemmas.List.{take_at, drop_at, length-take-le, length-append, append_assoc, append-nil}
use Rattle.byteorder.specs.Endian.{big_number, big_bytes}
use Rattle.afp_bitmap.specs.Bits.{is_asked}
use Rattle.afp_bitmap.specs.Field.{Field, Number, Date, Finder, LongName, Utf8Name, fixed_size, blank, IsCountable, IsTyped}
use Rattle.afp_bitmap.specs.Params.{asked_of, RowFits}
use Rattle.afp_bitmap.specs.lemma.Reading.{piece, behind, finder_of}
use Rattle.afp_bitmap.specs.Table.{FieldRow}
use Rattle.afp_bitmap.proofs.Asked.{asked_none, asked_yes, asked_no}
use Rattle.afp_bitmap.proofs.Formed.{NoNames, Late, Formed, fields, late_asked, no_names_asked}
use Rattle.afp_base.specs.Bytes.{IsBytes}
use Rattle.afp_base.proofs.Numbers.{IsBytes-take, IsBytes-drop, IsBytes-none, big_number-lt, big_number_none, number_again, length-big_bytes, date_fits, date_lt, date_again}
use Rattle.afp_bitmap.proofs.Parts.{fixed_at, long_in, utf8_in, no_long, no_utf8}

-- the n bytes at the front where they are there, and those behind them
abbrev pub cut : ℕ → List ℕ → List ℕ
cut n rest = cond (leb n (length rest)) (take n rest) []

abbrev pub past : ℕ → List ℕ → List ℕ
past n rest = cond (leb n (length rest)) (drop n rest) rest

pub cut_whole : (n : ℕ) (rest : List ℕ) → n ≤ length rest → cut n rest ≡ take n rest
cut_whole n rest h = rw (le-leb n (length rest) h) refl

pub past_whole : (n : ℕ) (rest : List ℕ) → n ≤ length rest → past n rest ≡ drop n rest
past_whole n rest h = rw (le-leb n (length rest) h) refl

pub cut_at : (n : ℕ) (p rest : List ℕ) → length p ≡ n → cut n (p ++ rest) ≡ p
cut_at n p rest len = cut_whole n (p ++ rest) (omega (arith, length-append p rest)) ∙ take_at p rest n len

pub past_at : (n : ℕ) (p rest : List ℕ) → length p ≡ n → past n (p ++ rest) ≡ rest
past_at n p rest len = past_whole n (p ++ rest) (omega (arith, length-append p rest)) ∙ drop_at p rest n len

piece_on : (bits bit n : ℕ) (rest : List ℕ) → is_asked bits bit ≡ true → piece bits bit n rest ≡ cut n rest
unfolding piece
piece_on bits bit n rest on = rw on refl

piece_off : (bits bit n : ℕ) (rest : List ℕ) → is_asked bits bit ≡ false → piece bits bit n rest ≡ []
unfolding piece
piece_off bits bit n rest off = rw off refl

behind_on : (bits bit n : ℕ) (rest : List ℕ) → is_asked bits bit ≡ true → behind bits bit n rest ≡ past n rest
unfolding behind
behind_on bits bit n rest on = rw on refl

behind_off : (bits bit n : ℕ) (rest : List ℕ) → is_asked bits bit ≡ false → behind bits bit n rest ≡ rest
unfolding behind
behind_off bits bit n rest off = rw off refl

-- the field with the value that these bytes show, or with a name
abbrev pub refill : Field → List ℕ → List ℕ → List ℕ → Field
refill (Number n x) p l u = Number n (big_number n p)
refill (Date z) p l u = Date (cast_signed w32 (big_number 4 p))
refill (Finder info) p l u = Finder (finder_of p)
refill (LongName name) p l u = LongName l
refill (Utf8Name name) p l u = Utf8Name u

-- fields that follow each other in the bytes
abbrev pub filled : List Field → List ℕ → List ℕ → List ℕ → List Field
filled [] rest l u = []
filled (f ∷ fs) rest l u = refill f (cut (fixed_size f) rest) l u ∷ filled fs (past (fixed_size f) rest) l u

-- the rows of a table, where the asked fields follow each other in the bytes
abbrev pub taken_rows : ℕ → List FieldRow → List ℕ → List ℕ → List ℕ → List FieldRow
taken_rows bits [] rest l u = []
taken_rows bits (r ∷ rs) rest l u =
    (r.0, refill r.1 (piece bits r.0 (fixed_size r.1) rest) l u) ∷ taken_rows bits rs (behind bits r.0 (fixed_size r.1) rest) l u

pub asked_taken : (bits : ℕ) (rs : List FieldRow) (rest l u : List ℕ) → asked_of bits (taken_rows bits rs rest l u) ≡ filled (asked_of bits rs) rest l u
asked_taken bits [] rest l u = rw (asked_none bits) refl
asked_taken bits (r ∷ rs) rest l u =
    elim (cases_Bool (is_asked bits r.0)) [
      | inl on ↦
          asked_yes bits (r.0, refill r.1 (piece bits r.0 (fixed_size r.1) rest) l u) (taken_rows bits rs (behind bits r.0 (fixed_size r.1) rest) l u) on
          ∙ rw (asked_yes bits r rs on, piece_on bits r.0 (fixed_size r.1) rest on, behind_on bits r.0 (fixed_size r.1) rest on)
          (ap (λ (x : List Field). refill r.1 (cut (fixed_size r.1) rest) l u ∷ x) (asked_taken bits rs (past (fixed_size r.1) rest) l u))
      | inr off ↦
          asked_no bits (r.0, refill r.1 (piece bits r.0 (fixed_size r.1) rest) l u) (taken_rows bits rs (behind bits r.0 (fixed_size r.1) rest) l u) off
          ∙ rw (asked_no bits r rs off, behind_off bits r.0 (fixed_size r.1) rest off) (asked_taken bits rs rest l u)
    ]

-- ---- the values fit

-- a name that is not asked is empty
abbrev pub IsOff : Field → List ℕ → List ℕ → Type 0
IsOff (LongName name) l u = l ≡ []
IsOff (Utf8Name name) l u = u ≡ []
IsOff f l u = Unit {0}

abbrev pub AreOff : ℕ → List FieldRow → List ℕ → List ℕ → Type 0
AreOff bits [] l u = Unit {0}
AreOff bits (r ∷ rs) l u = (is_asked bits r.0 ≡ false → IsOff r.1 l u) × AreOff bits rs l u

off_no_names : (bits : ℕ) (rs : List FieldRow) (l u : List ℕ) → NoNames (fields rs) → AreOff bits rs l u
off_no_names bits [] l u h = tt
off_no_names bits ((b, Number n x) ∷ rs) l u h = (λ off. tt, off_no_names bits rs l u h)
off_no_names bits ((b, Date z) ∷ rs) l u h = (λ off. tt, off_no_names bits rs l u h)
off_no_names bits ((b, Finder info) ∷ rs) l u h = (λ off. tt, off_no_names bits rs l u h)
off_no_names bits ((b, LongName name) ∷ rs) l u h = absurd h
off_no_names bits ((b, Utf8Name name) ∷ rs) l u h = absurd h

-- what is said of the names in the asked rows is said of those in the rest, where the first is plain
utf8_rest : (bits : ℕ) (r : FieldRow) (rs : List FieldRow) (u : List ℕ) → (utf8_in (r.1 ∷ asked_of bits rs) ≡ utf8_in (asked_of bits rs))
    → (utf8_in (asked_of bits (r ∷ rs)) ≡ None → u ≡ []) → utf8_in (asked_of bits rs) ≡ None → u ≡ []
utf8_rest bits r rs u plain h e =
    elim (cases_Bool (is_asked bits r.0)) [
      | inl on ↦ h (rw (asked_yes bits r rs on) (plain ∙ e))
      | inr off ↦ h (rw (asked_no bits r rs off) e)
    ]

long_rest : (bits : ℕ) (r : FieldRow) (rs : List FieldRow) (l : List ℕ) → (long_in (r.1 ∷ asked_of bits rs) ≡ long_in (asked_of bits rs))
    → (long_in (asked_of bits (r ∷ rs)) ≡ None → l ≡ []) → long_in (asked_of bits rs) ≡ None → l ≡ []
long_rest bits r rs l plain h e =
    elim (cases_Bool (is_asked bits r.0)) [
      | inl on ↦ h (rw (asked_yes bits r rs on) (plain ∙ e))
      | inr off ↦ h (rw (asked_no bits r rs off) e)
    ]

off_late : (bits : ℕ) (rs : List FieldRow) (l u : List ℕ) → Late (fields rs) → (utf8_in (asked_of bits rs) ≡ None → u ≡ []) → AreOff bits rs l u
off_late bits [] l u h k = tt
off_late bits ((b, Number n x) ∷ rs) l u h k = (λ off. tt, off_late bits rs l u h (utf8_rest bits (b, Number n x) rs u refl k))
off_late bits ((b, Date z) ∷ rs) l u h k = (λ off. tt, off_late bits rs l u h (utf8_rest bits (b, Date z) rs u refl k))
off_late bits ((b, Finder info) ∷ rs) l u h k = (λ off. tt, off_late bits rs l u h (utf8_rest bits (b, Finder info) rs u refl k))
off_late bits ((b, LongName name) ∷ rs) l u h k = absurd h
off_late bits ((b, Utf8Name name) ∷ rs) l u h k =
    (λ off. k (rw (asked_no bits (b, Utf8Name name) rs off) (no_utf8 (asked_of bits rs) (no_names_asked bits rs h))), off_no_names bits rs l u h)

pub off_formed : (bits : ℕ) (rs : List FieldRow) (l u : List ℕ) → Formed (fields rs) → (long_in (asked_of bits rs) ≡ None → l ≡ [])
    → (utf8_in (asked_of bits rs) ≡ None → u ≡ []) → AreOff bits rs l u
off_formed bits [] l u h j k = tt
off_formed bits ((b, Number n x) ∷ rs) l u h j k =
    (λ off. tt, off_formed bits rs l u h (long_rest bits (b, Number n x) rs l refl j) (utf8_rest bits (b, Number n x) rs u refl k))
off_formed bits ((b, Date z) ∷ rs) l u h j k =
    (λ off. tt, off_formed bits rs l u h (long_rest bits (b, Date z) rs l refl j) (utf8_rest bits (b, Date z) rs u refl k))
off_formed bits ((b, Finder info) ∷ rs) l u h j k =
    (λ off. tt, off_formed bits rs l u h (long_rest bits (b, Finder info) rs l refl j) (utf8_rest bits (b, Finder info) rs u refl k))
off_formed bits ((b, LongName name) ∷ rs) l u h j k =
    (λ off. j (rw (asked_no bits (b, LongName name) rs off) (no_long (asked_of bits rs) (late_asked bits rs h))), off_late bits rs l u h (utf8_rest bits (b, LongName name) rs u refl k))
off_formed bits ((b, Utf8Name name) ∷ rs) l u h j k =
    (λ off. k (rw (asked_no bits (b, Utf8Name name) rs off) (no_utf8 (asked_of bits rs) (no_names_asked bits rs h))), off_no_names bits rs l u h)

refill_countable : (f : Field) (p l u : List ℕ) → length l < 256 → length u < 65536 → IsCountable (refill f p l u)
refill_countable (Number n x) p l u hl hu = tt
refill_countable (Date z) p l u hl hu = tt
refill_countable (Finder info) p l u hl hu = tt
refill_countable (LongName name) p l u hl hu = hl
refill_countable (Utf8Name name) p l u hl hu = hu

-- no bytes show the value zero
refill_blank : (f : Field) (l u : List ℕ) → IsOff f l u → refill f [] l u ≡ blank (refill f [] l u)
unfolding finder_of
refill_blank (Number n x) l u h = ap (λ (y : ℕ). Number n y) (big_number_none n)
refill_blank (Date z) l u h = refl
refill_blank (Finder info) l u h = refl
refill_blank (LongName name) l u h = ap (λ (y : List ℕ). LongName y) h
refill_blank (Utf8Name name) l u h = ap (λ (y : List ℕ). Utf8Name y) h

match_on : {b : Bool} (P Q : Type 0) → b ≡ true → P → MatchBool b P Q
match_on P Q e h = rw e h

match_off : {b : Bool} (P Q : Type 0) → b ≡ false → Q → MatchBool b P Q
match_off P Q e h = rw e h

pub taken_fits : (bits : ℕ) (rs : List FieldRow) (rest l u : List ℕ) → length l < 256 → length u < 65536 → AreOff bits rs l u
    → AllByRecursion (RowFits bits) (taken_rows bits rs rest l u)
taken_fits bits [] rest l u hl hu h = tt
taken_fits bits (r ∷ rs) rest l u hl hu h =
    let f : Field = refill r.1 (piece bits r.0 (fixed_size r.1) rest) l u in (
      elim (cases_Bool (is_asked bits r.0)) [
        | inl on ↦ match_on (IsCountable f) (f ≡ blank f) on (refill_countable r.1 (piece bits r.0 (fixed_size r.1) rest) l u hl hu)
        | inr off ↦ match_off (IsCountable f) (f ≡ blank f) off (rw (piece_off bits r.0 (fixed_size r.1) rest off) (refill_blank r.1 l u (h.0 off)))
      ],
      taken_fits bits rs (behind bits r.0 (fixed_size r.1) rest) l u hl hu h.1,
    )

-- ---- the values are of their types

-- all the bytes of a field, or none
record Piece (n : ℕ) (p : List ℕ) : Type 0 where
  bytes : IsBytes p
  whole : (length p ≡ n → ⊥) → p ≡ []

cut_piece : (n : ℕ) (rest : List ℕ) → IsBytes rest → Piece n (cut n rest)
cut_piece n rest h =
    elim (cases_lt (length rest) n) [
      | inl less ↦ rw (lt-leb n (length rest) less) (record { bytes = IsBytes-none; whole = λ no. refl })
      | inr enough ↦ rw (le-leb n (length rest) enough) (record { bytes = IsBytes-take n rest h; whole = λ no. absurd (no (length-take-le n rest enough)) })
    ]

piece_is : (bits bit n : ℕ) (rest : List ℕ) → IsBytes rest → Piece n (piece bits bit n rest)
piece_is bits bit n rest h =
    elim (cases_Bool (is_asked bits bit)) [
      | inl on ↦ rw (piece_on bits bit n rest on) (cut_piece n rest h)
      | inr off ↦ rw (piece_off bits bit n rest off) (record { bytes = IsBytes-none; whole = λ no. refl })
    ]

past_bytes : (n : ℕ) (rest : List ℕ) → IsBytes rest → IsBytes (past n rest)
past_bytes n rest h =
    elim (cases_lt (length rest) n) [
      | inl less ↦ rw (lt-leb n (length rest) less) h
      | inr enough ↦ rw (le-leb n (length rest) enough) (IsBytes-drop n rest h)
    ]

behind_bytes : (bits bit n : ℕ) (rest : List ℕ) → IsBytes rest → IsBytes (behind bits bit n rest)
behind_bytes bits bit n rest h =
    elim (cases_Bool (is_asked bits bit)) [
      | inl on ↦ rw (behind_on bits bit n rest on) (past_bytes n rest h)
      | inr off ↦ rw (behind_off bits bit n rest off) h
    ]

finder_length : (p : List ℕ) → Piece 32 p → length (finder_of p) ≡ 32
unfolding finder_of
finder_length [] h = refl
finder_length (b ∷ bs) h =
    elim (cases_lt (length (b ∷ bs)) 32) [
      | inl less ↦ absurd (let none : b ∷ bs ≡ [] = h.whole (λ e. omega arith) in cc)
      | inr enough ↦
          elim (cases_lt 32 (length (b ∷ bs))) [
            | inl more ↦ absurd (let none : b ∷ bs ≡ [] = h.whole (λ e. omega arith) in cc)
            | inr le ↦ omega arith
          ]
    ]

refill_typed : (f : Field) (p l u : List ℕ) → Piece (fixed_size f) p → IsTyped (refill f p l u)
refill_typed (Number n x) p l u h = big_number-lt n p h.bytes
refill_typed (Date z) p l u h = date_fits (big_number 4 p) (let lt : big_number 4 p < 256 ^ 4 = big_number-lt 4 p h.bytes in omega arith)
refill_typed (Finder info) p l u h = finder_length p h
refill_typed (LongName name) p l u h = tt
refill_typed (Utf8Name name) p l u h = tt

pub taken_typed : (bits : ℕ) (rs : List FieldRow) (rest l u : List ℕ) → IsBytes rest → AllByRecursion (λ r. IsTyped r.1) (taken_rows bits rs rest l u)
taken_typed bits [] rest l u h = tt
taken_typed bits (r ∷ rs) rest l u h = (
  refill_typed r.1 (piece bits r.0 (fixed_size r.1) rest) l u (piece_is bits r.0 (fixed_size r.1) rest h),
  taken_typed bits rs (behind bits r.0 (fixed_size r.1) rest) l u (behind_bytes bits r.0 (fixed_size r.1) rest h),
)

-- ---- what was written is taken again

-- the names in the rows are these
abbrev pub IsNamed : Field → List ℕ → List ℕ → Type 0
IsNamed (LongName name) l u = name ≡ l
IsNamed (Utf8Name name) l u = name ≡ u
IsNamed f l u = Unit {0}

abbrev pub AreNamed : List FieldRow → List ℕ → List ℕ → Type 0
AreNamed [] l u = Unit {0}
AreNamed (r ∷ rs) l u = IsNamed r.1 l u × AreNamed rs l u

pub fixed_length : (first place : ℕ) (f : Field) → IsTyped f → length (fixed_at first place f) ≡ fixed_size f
fixed_length first place (Number n x) h = length-big_bytes n x
fixed_length first place (Date z) h = length-big_bytes 4 (cast_unsigned w32 z)
fixed_length first place (Finder info) h = h
fixed_length first place (LongName name) h = length-big_bytes 2 first
fixed_length first place (Utf8Name name) h = omega (arith, length-append (big_bytes 2 place) (replicate 4 0), length-big_bytes 2 place)

pub finder_again : (info : List ℕ) → length info ≡ 32 → finder_of info ≡ info
unfolding finder_of
finder_again [] h = absurd (omega arith)
finder_again (b ∷ bs) h = refl

refill_again : (first place : ℕ) (f : Field) (l u : List ℕ) → IsTyped f → IsNamed f l u → refill f (fixed_at first place f) l u ≡ f
refill_again first place (Number n x) l u h k =
    ap (λ (y : ℕ). Number n y) (ap (big_number n) (sym (append-nil (big_bytes n x))) ∙ number_again n x [] h)
refill_again first place (Date z) l u h k =
    let x : ℕ = cast_unsigned w32 z in
    let small : x < 256 ^ 4 = (let lt : x < 2 ^ 32 = date_lt z h in omega arith) in
    ap (λ (y : ℕ). Date (cast_signed w32 y)) (ap (big_number 4) (sym (append-nil (big_bytes 4 x))) ∙ number_again 4 x [] small)
    ∙ ap (λ (y : ℤ). Date y) (date_again z h)
refill_again first place (Finder info) l u h k = ap (λ (y : List ℕ). Finder y) (finder_again info h)
refill_again first place (LongName name) l u h k = ap (λ (y : List ℕ). LongName y) (sym k)
refill_again first place (Utf8Name name) l u h k = ap (λ (y : List ℕ). Utf8Name y) (sym k)

refill_off : (f : Field) (l u : List ℕ) → f ≡ blank f → IsNamed f l u → refill f [] l u ≡ f
unfolding finder_of
refill_off (Number n x) l u h k = ap (λ (y : ℕ). Number n y) (big_number_none n) ∙ sym h
refill_off (Date z) l u h k = sym h
refill_off (Finder info) l u h k = sym h
refill_off (LongName name) l u h k = ap (λ (y : List ℕ). LongName y) (sym k)
refill_off (Utf8Name name) l u h k = ap (λ (y : List ℕ). Utf8Name y) (sym k)

pub taken_again : (bits first place : ℕ) (rs : List FieldRow) (bytes l u r : List ℕ) → bytes ≡ concat (map (fixed_at first place) (asked_of bits rs)) ++ r
    → AllByRecursion (RowFits bits) rs → AllByRecursion (λ row. IsTyped row.1) rs → AreNamed rs l u → taken_rows bits rs bytes l u ≡ rs
taken_again bits first place [] bytes l u r e h t k = refl
taken_again bits first place (row ∷ rs) bytes l u r e h t k =
    elim (cases_Bool (is_asked bits row.0)) [
      | inl on ↦
          let p : List ℕ = fixed_at first place row.1 in
          let x : List ℕ = concat (map (fixed_at first place) (asked_of bits rs)) ++ r in
          let len : length p ≡ fixed_size row.1 = fixed_length first place row.1 t.0 in
          let front : bytes ≡ p ++ x = (rw (asked_yes bits row rs on) at e) ∙ append_assoc p (concat (map (fixed_at first place) (asked_of bits rs))) r in
          let value : piece bits row.0 (fixed_size row.1) bytes ≡ p = piece_on bits row.0 (fixed_size row.1) bytes on ∙ ap (cut (fixed_size row.1)) front ∙ cut_at (fixed_size row.1) p x len in
          let next : behind bits row.0 (fixed_size row.1) bytes ≡ x = behind_on bits row.0 (fixed_size row.1) bytes on ∙ ap (past (fixed_size row.1)) front ∙ past_at (fixed_size row.1) p x len in
          let here : refill row.1 (piece bits row.0 (fixed_size row.1) bytes) l u ≡ row.1 = ap (λ (y : List ℕ). refill row.1 y l u) value ∙ refill_again first place row.1 l u t.0 k.0 in
          let there : taken_rows bits rs (behind bits row.0 (fixed_size row.1) bytes) l u ≡ rs = ap (λ (y : List ℕ). taken_rows bits rs y l u) next ∙ taken_again bits first place rs x l u r refl h.1 t.1 k.1 in
          ap (λ (y : Field). (row.0, y) ∷ taken_rows bits rs (behind bits row.0 (fixed_size row.1) bytes) l u) here ∙ ap (λ (y : List FieldRow). row ∷ y) there
      | inr off ↦
          let front : bytes ≡ concat (map (fixed_at first place) (asked_of bits rs)) ++ r = rw (asked_no bits row rs off) at e in
          let blank_is : row.1 ≡ blank row.1 = MatchBool-at_false (IsCountable row.1) (row.1 ≡ blank row.1) off h.0 in
          let here : refill row.1 (piece bits row.0 (fixed_size row.1) bytes) l u ≡ row.1 = ap (λ (y : List ℕ). refill row.1 y l u) (piece_off bits row.0 (fixed_size row.1) bytes off) ∙ refill_off row.1 l u blank_is k.0 in
          let there : taken_rows bits rs (behind bits row.0 (fixed_size row.1) bytes) l u ≡ rs = ap (λ (y : List ℕ). taken_rows bits rs y l u) (behind_off bits row.0 (fixed_size row.1) bytes off) ∙ taken_again bits first place rs bytes l u r front h.1 t.1 k.1 in
          ap (λ (y : Field). (row.0, y) ∷ taken_rows bits rs (behind bits row.0 (fixed_size row.1) bytes) l u) here ∙ ap (λ (y : List FieldRow). row ∷ y) there
    ]
