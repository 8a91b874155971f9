-- The asked fields of a table, row by row, and the size of their fixed part.
use Rattle.std.proofs.Common.{◌≡◌, ℕ, ◌+◌, ◌≤◌, true, false, List, [], ◌∷◌, map, refl, arith, inl, inr}
use Rattle.std.proofs.lemmas.Bool.{cases_Bool}
use Rattle.afp_bitmap.specs.declared.table.Shape.{Shape}
use Rattle.afp_bitmap.specs.declared.table.Shape.TheVariants as shapes
use Rattle.afp_bitmap.specs.declared.table.Slot.{Slot}
use Rattle.afp_bitmap.specs.Bits.{is_asked}
use Rattle.afp_bitmap.specs.Field.{Field, Number, Date, Finder, LongName, Utf8Name, fixed_size}
use Rattle.afp_bitmap.specs.Params.{asked_of, size_of_fixed_part}
use Rattle.afp_bitmap.specs.lemma.Reading.{size_of, asked_size}
use Rattle.afp_bitmap.specs.Table.{FieldRow}

pub asked_none : (bits : ℕ) → asked_of bits [] ≡ []
unfolding asked_of
asked_none bits = refl

pub asked_yes : (bits : ℕ) (r : FieldRow) (rs : List FieldRow) → is_asked bits r.0 ≡ true → asked_of bits (r ∷ rs) ≡ r.1 ∷ asked_of bits rs
unfolding asked_of
asked_yes bits r rs e = rw e refl

pub asked_no : (bits : ℕ) (r : FieldRow) (rs : List FieldRow) → is_asked bits r.0 ≡ false → asked_of bits (r ∷ rs) ≡ asked_of bits rs
unfolding asked_of
asked_no bits r rs e = rw e refl

-- a field's shape, and a row's slot
abbrev pub shape_of : Field → Shape
shape_of (Number n x) = shapes.Plain n
shape_of (Date z) = shapes.Plain 4
shape_of (Finder info) = shapes.Plain 32
shape_of (LongName name) = shapes.LongName
shape_of (Utf8Name name) = shapes.Utf8Name

abbrev pub slot_of : FieldRow → Slot
slot_of r = record { 0 = r.0; 1 = shape_of r.1 }

pub size_of-shape : (f : Field) → size_of (shape_of f) ≡ fixed_size f
size_of-shape (Number n x) = refl
size_of-shape (Date z) = refl
size_of-shape (Finder info) = refl
size_of-shape (LongName name) = refl
size_of-shape (Utf8Name name) = refl

pub asked_size_none : (bits : ℕ) → asked_size bits [] ≡ 0
unfolding asked_size
asked_size_none bits = refl

pub asked_size_yes : (bits : ℕ) (s : Slot) (ss : List Slot) → is_asked bits s.0 ≡ true → asked_size bits (s ∷ ss) ≡ size_of s.1 + asked_size bits ss
unfolding asked_size
asked_size_yes bits s ss e = rw e refl

pub asked_size_no : (bits : ℕ) (s : Slot) (ss : List Slot) → is_asked bits s.0 ≡ false → asked_size bits (s ∷ ss) ≡ asked_size bits ss
unfolding asked_size
asked_size_no bits s ss e = rw e (omega arith)

-- the fixed part of the asked fields has the size that their slots have
pub asked_size_is : (bits : ℕ) (rs : List FieldRow) → asked_size bits (map slot_of rs) ≡ size_of_fixed_part (asked_of bits rs)
asked_size_is bits [] = rw (asked_size_none bits, asked_none bits) refl
asked_size_is bits (r ∷ rs) =
    elim (cases_Bool (is_asked bits r.0)) [
      | inl on ↦ rw (asked_size_yes bits (slot_of r) (map slot_of rs) on, asked_yes bits r rs on, size_of-shape r.1, asked_size_is bits rs) refl
      | inr off ↦ rw (asked_size_no bits (slot_of r) (map slot_of rs) off, asked_no bits r rs off) (asked_size_is bits rs)
    ]

-- the size where every field is asked
abbrev pub whole_size : List Slot → ℕ
whole_size [] = 0
whole_size (s ∷ ss) = size_of s.1 + whole_size ss

pub asked_size_le : (bits : ℕ) (ss : List Slot) → asked_size bits ss ≤ whole_size ss
asked_size_le bits [] = rw (asked_size_none bits) (omega arith)
asked_size_le bits (s ∷ ss) =
    let rest = asked_size_le bits ss in
    elim (cases_Bool (is_asked bits s.0)) [
      | inl on ↦ rw (asked_size_yes bits s ss on) (omega arith)
      | inr off ↦ rw (asked_size_no bits s ss off) (omega arith)
    ]
