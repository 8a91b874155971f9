-- The order of the names in a table: at most one long name, and behind it at most one UTF-8 name.
use Rattle.std.proofs.Common.{◌≡◌, ℕ, ◌+◌, ◌%◌, List, [], ◌∷◌, length, map, arith, inl, inr, length-append}
use Rattle.std.proofs.lemmas.Bool.{cases_Bool}
use Rattle.std.proofs.lemmas.List.{length-replicate, append-nil}
use Rattle.afp_bitmap.specs.Bits.{is_asked}
use Rattle.afp_bitmap.specs.Field.{Field, Number, Date, Finder, LongName, Utf8Name, long_name_bytes, pad_of}
use Rattle.afp_bitmap.specs.Params.{asked_of, name_size}
use Rattle.afp_bitmap.specs.Table.{FieldRow}
pub use Rattle.afp_bitmap.specs.lemma.Writing.{by_name, NoNames, Late, Formed}
use Rattle.afp_bitmap.proofs.Asked.{asked_none, asked_yes, asked_no}

pub by_name_to : (f : Field) {P L U Q : Type 0} → (P → Q) → (L → Q) → (U → Q) → by_name f P L U → Q
by_name_to (Number n x) p l u h = p h
by_name_to (Date z) p l u h = p h
by_name_to (Finder info) p l u h = p h
by_name_to (LongName name) p l u h = l h
by_name_to (Utf8Name name) p l u h = u h

pub by_name_map : (f : Field) {P L U P' L' U' : Type 0} → (P → P') → (L → L') → (U → U') → by_name f P L U → by_name f P' L' U'
by_name_map (Number n x) p l u h = p h
by_name_map (Date z) p l u h = p h
by_name_map (Finder info) p l u h = p h
by_name_map (LongName name) p l u h = l h
by_name_map (Utf8Name name) p l u h = u h

pub no_names_late : (fs : List Field) → NoNames fs → Late fs
no_names_late [] h = tt
no_names_late (f ∷ fs) h = by_name_map f (no_names_late fs) (λ x. x) (λ x. absurd x) h

pub late_formed : (fs : List Field) → Late fs → Formed fs
late_formed [] h = tt
late_formed (f ∷ fs) h = by_name_map f (late_formed fs) (λ x. absurd x) (λ x. x) h

abbrev pub fields : List FieldRow → List Field
fields rs = map (λ r. r.1) rs

pub no_names_asked : (bits : ℕ) (rs : List FieldRow) → NoNames (fields rs) → NoNames (asked_of bits rs)
no_names_asked bits [] h = rw (asked_none bits) tt
no_names_asked bits (r ∷ rs) h =
    elim (cases_Bool (is_asked bits r.0)) [
      | inl on ↦ rw (asked_yes bits r rs on) (by_name_map r.1 (no_names_asked bits rs) (λ x. x) (λ x. x) h)
      | inr off ↦ rw (asked_no bits r rs off) (by_name_to r.1 (no_names_asked bits rs) (λ x. absurd x) (λ x. absurd x) h)
    ]

pub late_asked : (bits : ℕ) (rs : List FieldRow) → Late (fields rs) → Late (asked_of bits rs)
late_asked bits [] h = rw (asked_none bits) tt
late_asked bits (r ∷ rs) h =
    elim (cases_Bool (is_asked bits r.0)) [
      | inl on ↦ rw (asked_yes bits r rs on) (by_name_map r.1 (late_asked bits rs) (λ x. x) (no_names_asked bits rs) h)
      | inr off ↦ rw (asked_no bits r rs off) (by_name_to r.1 (late_asked bits rs) (λ x. absurd x) (λ x. no_names_late (asked_of bits rs) (no_names_asked bits rs x)) h)
    ]

pub formed_asked : (bits : ℕ) (rs : List FieldRow) → Formed (fields rs) → Formed (asked_of bits rs)
formed_asked bits [] h = rw (asked_none bits) tt
formed_asked bits (r ∷ rs) h =
    elim (cases_Bool (is_asked bits r.0)) [
      | inl on ↦ rw (asked_yes bits r rs on) (by_name_map r.1 (formed_asked bits rs) (late_asked bits rs) (no_names_asked bits rs) h)
      | inr off ↦ rw (asked_no bits r rs off) (by_name_to r.1 (formed_asked bits rs) (λ x. late_formed (asked_of bits rs) (late_asked bits rs x)) (λ x. late_formed (asked_of bits rs) (no_names_late (asked_of bits rs) (no_names_asked bits rs x))) h)
    ]

-- a long name and its pad
pub long_name_size : (name : List ℕ) → name_size (LongName name) ≡ 1 + length name + (1 + length name) % 2
long_name_size name =
    rw (append-nil (pad_of (long_name_bytes name)), length-append name (pad_of (long_name_bytes name)), length-replicate {A = ℕ} (length (long_name_bytes name) % 2) 0) (omega arith)
