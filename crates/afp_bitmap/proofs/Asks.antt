-- The asked fields of values of one kind.
use Rattle.std.proofs.Common.{◌≡◌, ℕ, zero, suc, ◌<◌, Bool, true, false, cond, List, [], ◌∷◌, length, take, map, Option, Some, None, is_some, refl, sym, ap, ◌∙◌, arith, inl, inr}
use Rattle.std.specs.List.{concat, AllByRecursion}
use Rattle.std.proofs.lemmas.Bool.{cases_Bool, MatchBool-at_false}
use Rattle.std.proofs.lemmas.List.{length-append}
use Rattle.afp_bitmap.specs.declared.table.Shape.{Shape}
use Rattle.afp_bitmap.specs.declared.table.Slot.{Slot}
use Rattle.afp_bitmap.specs.Bits.{is_asked}
use Rattle.afp_bitmap.specs.Field.{Field, Number, Date, Finder, LongName, Utf8Name, fixed_size, blank, IsCountable, IsTyped}
use Rattle.afp_bitmap.specs.Params.{asked_of, size_of_fixed_part, RowFits}
use Rattle.afp_bitmap.specs.Table.{FieldRow}
use Rattle.afp_bitmap.proofs.Asked.{shape_of, slot_of, size_of-shape, asked_none, asked_yes, asked_no}
use Rattle.afp_bitmap.proofs.Claims.{if_long}
use Rattle.afp_bitmap.proofs.Filled.{cut, past, refill, filled, AreNamed, fixed_length}
use Rattle.afp_bitmap.proofs.Fixed.{sizes}
use Rattle.afp_bitmap.proofs.Formed.{NoNames, Late, Formed, fields, late_asked, no_names_asked}
use Rattle.afp_bitmap.proofs.NamesAll.{text, OptFits}
use Rattle.afp_bitmap.proofs.Parts.{fixed_at, long_in, utf8_in, no_long, no_utf8}

-- the shapes of the asked fields are those of their slots
abbrev asked_shapes : ℕ → List Slot → List Shape
asked_shapes bits [] = []
asked_shapes bits (s ∷ ss) = cond (is_asked bits s.0) (s.1 ∷ asked_shapes bits ss) (asked_shapes bits ss)

shapes_are : (bits : ℕ) (rs : List FieldRow) → map shape_of (asked_of bits rs) ≡ asked_shapes bits (map slot_of rs)
shapes_are bits [] = rw (asked_none bits) refl
shapes_are bits (r ∷ rs) =
    elim (cases_Bool (is_asked bits r.0)) [
      | inl on ↦ rw (asked_yes bits r rs on, on) (ap (λ (x : List Shape). shape_of r.1 ∷ x) (shapes_are bits rs))
      | inr off ↦ rw (asked_no bits r rs off, off) (shapes_are bits rs)
    ]

pub same_shapes : (bits : ℕ) (rs ss : List FieldRow) → map slot_of rs ≡ map slot_of ss → map shape_of (asked_of bits rs) ≡ map shape_of (asked_of bits ss)
same_shapes bits rs ss e = shapes_are bits rs ∙ ap (asked_shapes bits) e ∙ sym (shapes_are bits ss)

pub sizes_are : (fs : List Field) → size_of_fixed_part fs ≡ sizes (map shape_of fs)
sizes_are [] = refl
sizes_are (f ∷ fs) = let a = sizes_are fs in let b = size_of-shape f in omega arith

pub fixed_total : (p q : ℕ) (fs : List Field) → AllByRecursion IsTyped fs → length (concat (map (fixed_at p q) fs)) ≡ sizes (map shape_of fs)
fixed_total p q [] t = refl
fixed_total p q (f ∷ fs) t =
    let a = fixed_length p q f t.0 in
    let b = fixed_total p q fs t.1 in
    let c = size_of-shape f in
    let d = length-append (fixed_at p q f) (concat (map (fixed_at p q) fs)) in
    omega arith

pub typed_asked : (bits : ℕ) (rs : List FieldRow) → AllByRecursion (λ r. IsTyped r.1) rs → AllByRecursion IsTyped (asked_of bits rs)
typed_asked bits [] h = rw (asked_none bits) tt
typed_asked bits (r ∷ rs) h =
    elim (cases_Bool (is_asked bits r.0)) [
      | inl on ↦ rw (asked_yes bits r rs on) (h.0, typed_asked bits rs h.1)
      | inr off ↦ rw (asked_no bits r rs off) (typed_asked bits rs h.1)
    ]

pub typed_take : (k : ℕ) (fs : List Field) → AllByRecursion IsTyped fs → AllByRecursion IsTyped (take k fs)
typed_take zero fs h = tt
typed_take (suc k) [] h = tt
typed_take (suc k) (f ∷ fs) h = (h.0, typed_take k fs h.1)

-- ---- the names

pub long_countable : (fs : List Field) → AllByRecursion IsCountable fs → OptFits (λ l. length l < 256) (long_in fs)
long_countable [] h = tt
long_countable (Number n x ∷ fs) h = long_countable fs h.1
long_countable (Date z ∷ fs) h = long_countable fs h.1
long_countable (Finder info ∷ fs) h = long_countable fs h.1
long_countable (LongName name ∷ fs) h = h.0
long_countable (Utf8Name name ∷ fs) h = long_countable fs h.1

pub utf8_countable : (fs : List Field) → AllByRecursion IsCountable fs → OptFits (λ u. length u < 65536) (utf8_in fs)
utf8_countable [] h = tt
utf8_countable (Number n x ∷ fs) h = utf8_countable fs h.1
utf8_countable (Date z ∷ fs) h = utf8_countable fs h.1
utf8_countable (Finder info ∷ fs) h = utf8_countable fs h.1
utf8_countable (LongName name ∷ fs) h = utf8_countable fs h.1
utf8_countable (Utf8Name name ∷ fs) h = h.0

pub long_filled : (fs : List Field) (rest l u : List ℕ) → long_in (filled fs rest l u) ≡ if_long (is_some (long_in fs)) l
long_filled [] rest l u = refl
long_filled (Number n x ∷ fs) rest l u = long_filled fs (past n rest) l u
long_filled (Date z ∷ fs) rest l u = long_filled fs (past 4 rest) l u
long_filled (Finder info ∷ fs) rest l u = long_filled fs (past 32 rest) l u
long_filled (LongName name ∷ fs) rest l u = refl
long_filled (Utf8Name name ∷ fs) rest l u = long_filled fs (past 6 rest) l u

pub utf8_filled : (fs : List Field) (rest l u : List ℕ) → utf8_in (filled fs rest l u) ≡ if_long (is_some (utf8_in fs)) u
utf8_filled [] rest l u = refl
utf8_filled (Number n x ∷ fs) rest l u = utf8_filled fs (past n rest) l u
utf8_filled (Date z ∷ fs) rest l u = utf8_filled fs (past 4 rest) l u
utf8_filled (Finder info ∷ fs) rest l u = utf8_filled fs (past 32 rest) l u
utf8_filled (LongName name ∷ fs) rest l u = utf8_filled fs (past 2 rest) l u
utf8_filled (Utf8Name name ∷ fs) rest l u = refl

pub if_text : (b : Bool) (o : Option (List ℕ)) → is_some o ≡ b → if_long b (text o) ≡ o
if_text true None e = absurd cc
if_text true (Some x) e = refl
if_text false None e = refl
if_text false (Some x) e = absurd cc

pub text_none : (b : Bool) (o : Option (List ℕ)) → is_some o ≡ b → b ≡ false → text o ≡ []
text_none b None e h = refl
text_none b (Some x) e h = absurd cc

pub none_is : (o : Option (List ℕ)) → o ≡ None → is_some o ≡ false
none_is o e = rw e refl

pub filled_take : (k : ℕ) (fs : List Field) (rest l u : List ℕ) → filled (take k fs) rest l u ≡ take k (filled fs rest l u)
filled_take zero fs rest l u = refl
filled_take (suc k) [] rest l u = refl
filled_take (suc k) (f ∷ fs) rest l u =
    ap (λ (x : List Field). refill f (cut (fixed_size f) rest) l u ∷ x) (filled_take k fs (past (fixed_size f) rest) l u)

-- ---- the names in the rows are those of the asked fields, or empty

named_no_names : (rs : List FieldRow) (l u : List ℕ) → NoNames (fields rs) → AreNamed rs l u
named_no_names [] l u h = tt
named_no_names ((b, Number n x) ∷ rs) l u h = (tt, named_no_names rs l u h)
named_no_names ((b, Date z) ∷ rs) l u h = (tt, named_no_names rs l u h)
named_no_names ((b, Finder info) ∷ rs) l u h = (tt, named_no_names rs l u h)
named_no_names ((b, LongName name) ∷ rs) l u h = absurd h
named_no_names ((b, Utf8Name name) ∷ rs) l u h = absurd h

blank_row : (bits : ℕ) (r : FieldRow) → RowFits bits r → is_asked bits r.0 ≡ false → r.1 ≡ blank r.1
blank_row bits r h off = MatchBool-at_false (IsCountable r.1) (r.1 ≡ blank r.1) off h

-- what a plain row adds to the names
plain_utf8 : (bits : ℕ) (r : FieldRow) (rs : List FieldRow) (u : List ℕ) → utf8_in (r.1 ∷ asked_of bits rs) ≡ utf8_in (asked_of bits rs)
    → u ≡ text (utf8_in (asked_of bits (r ∷ rs))) → u ≡ text (utf8_in (asked_of bits rs))
plain_utf8 bits r rs u plain e =
    elim (cases_Bool (is_asked bits r.0)) [
      | inl on ↦ (rw (asked_yes bits r rs on) at e) ∙ ap text plain
      | inr off ↦ rw (asked_no bits r rs off) at e
    ]

plain_long : (bits : ℕ) (r : FieldRow) (rs : List FieldRow) (l : List ℕ) → long_in (r.1 ∷ asked_of bits rs) ≡ long_in (asked_of bits rs)
    → l ≡ text (long_in (asked_of bits (r ∷ rs))) → l ≡ text (long_in (asked_of bits rs))
plain_long bits r rs l plain e =
    elim (cases_Bool (is_asked bits r.0)) [
      | inl on ↦ (rw (asked_yes bits r rs on) at e) ∙ ap text plain
      | inr off ↦ rw (asked_no bits r rs off) at e
    ]

utf8_row : (bits b : ℕ) (name u : List ℕ) (rs : List FieldRow) → NoNames (fields rs) → RowFits bits (b, Utf8Name name) → u ≡ text (utf8_in (asked_of bits ((b, Utf8Name name) ∷ rs))) → name ≡ u
utf8_row bits b name u rs h fits e =
    elim (cases_Bool (is_asked bits b)) [
      | inl on ↦ let k : u ≡ name = rw (asked_yes bits (b, Utf8Name name) rs on) at e in sym k
      | inr off ↦
          let none : u ≡ [] = (rw (asked_no bits (b, Utf8Name name) rs off) at e) ∙ ap text (no_utf8 (asked_of bits rs) (no_names_asked bits rs h)) in
          let empty : Utf8Name name ≡ Utf8Name [] = blank_row bits (b, Utf8Name name) fits off in
          let same : name ≡ [] = cc in
          same ∙ sym none
    ]

named_late : (bits : ℕ) (rs : List FieldRow) (l u : List ℕ) → Late (fields rs) → AllByRecursion (RowFits bits) rs → u ≡ text (utf8_in (asked_of bits rs)) → AreNamed rs l u
named_late bits [] l u h fits e = tt
named_late bits ((b, Number n x) ∷ rs) l u h fits e = (tt, named_late bits rs l u h fits.1 (plain_utf8 bits (b, Number n x) rs u refl e))
named_late bits ((b, Date z) ∷ rs) l u h fits e = (tt, named_late bits rs l u h fits.1 (plain_utf8 bits (b, Date z) rs u refl e))
named_late bits ((b, Finder info) ∷ rs) l u h fits e = (tt, named_late bits rs l u h fits.1 (plain_utf8 bits (b, Finder info) rs u refl e))
named_late bits ((b, LongName name) ∷ rs) l u h fits e = absurd h
named_late bits ((b, Utf8Name name) ∷ rs) l u h fits e = (utf8_row bits b name u rs h fits.0 e, named_no_names rs l u h)

long_row : (bits b : ℕ) (name l : List ℕ) (rs : List FieldRow) → Late (fields rs) → RowFits bits (b, LongName name) → l ≡ text (long_in (asked_of bits ((b, LongName name) ∷ rs))) → name ≡ l
long_row bits b name l rs h fits e =
    elim (cases_Bool (is_asked bits b)) [
      | inl on ↦ let k : l ≡ name = rw (asked_yes bits (b, LongName name) rs on) at e in sym k
      | inr off ↦
          let none : l ≡ [] = (rw (asked_no bits (b, LongName name) rs off) at e) ∙ ap text (no_long (asked_of bits rs) (late_asked bits rs h)) in
          let empty : LongName name ≡ LongName [] = blank_row bits (b, LongName name) fits off in
          let same : name ≡ [] = cc in
          same ∙ sym none
    ]

pub named_formed : (bits : ℕ) (rs : List FieldRow) (l u : List ℕ) → Formed (fields rs) → AllByRecursion (RowFits bits) rs → l ≡ text (long_in (asked_of bits rs))
    → u ≡ text (utf8_in (asked_of bits rs)) → AreNamed rs l u
named_formed bits [] l u h fits d e = tt
named_formed bits ((b, Number n x) ∷ rs) l u h fits d e =
    (tt, named_formed bits rs l u h fits.1 (plain_long bits (b, Number n x) rs l refl d) (plain_utf8 bits (b, Number n x) rs u refl e))
named_formed bits ((b, Date z) ∷ rs) l u h fits d e =
    (tt, named_formed bits rs l u h fits.1 (plain_long bits (b, Date z) rs l refl d) (plain_utf8 bits (b, Date z) rs u refl e))
named_formed bits ((b, Finder info) ∷ rs) l u h fits d e =
    (tt, named_formed bits rs l u h fits.1 (plain_long bits (b, Finder info) rs l refl d) (plain_utf8 bits (b, Finder info) rs u refl e))
named_formed bits ((b, LongName name) ∷ rs) l u h fits d e =
    (long_row bits b name l rs h fits.0 d, named_late bits rs l u h fits.1 (plain_utf8 bits (b, LongName name) rs u refl e))
named_formed bits ((b, Utf8Name name) ∷ rs) l u h fits d e = (utf8_row bits b name u rs h fits.0 e, named_no_names rs l u h)
