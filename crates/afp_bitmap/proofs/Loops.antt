-- The loop of the writer, one row further.
use Rattle.std.proofs.Common.{◌≡◌, ℕ, ◌+◌, ◌-◌, ◌≤◌, Bool, true, false, List, [], ◌∷◌, ◌++◌, length, map, take, arith, refl, sym, ap, ◌∙◌, inl, inr, append_assoc, length-append}
use Rattle.std.specs.List.{concat}
use Rattle.std.proofs.lemmas.Bool.{cases_Bool}
use Rattle.std.proofs.lemmas.List.{append-nil, take-append-le}
use Rattle.afp_bitmap.specs.Bits.{is_asked}
use Rattle.afp_bitmap.specs.Field.{Field, fixed_bytes}
use Rattle.afp_bitmap.specs.Params.{asked_of}
use Rattle.afp_bitmap.specs.Table.{FieldRow}
use Rattle.afp_base.specs.Appended.{Keeps}
use Rattle.afp_bitmap.specs.lemma.Writing.{NameSpots, noted, all_noted}
use Rattle.afp_bitmap.proofs.Asked.{asked_none, asked_yes, asked_no}

pub noted_none : (at : ℕ) (s : NameSpots) → all_noted at [] s ≡ s
unfolding all_noted
noted_none at s = refl

pub noted_more : (at : ℕ) (f : Field) (fs : List Field) (s : NameSpots) → all_noted at (f ∷ fs) s ≡ all_noted (at + length (fixed_bytes 0 f)) fs (noted at f s)
unfolding all_noted
noted_more at f fs s = refl

-- with the rows to come the fixed part of the block that begins at `base` is whole, and all names are noted
pub record Goes (bits : ℕ) (rs : List FieldRow) (base : ℕ) (out : List ℕ) (spots : NameSpots) (whole : List ℕ) (all : NameSpots) : Type 0 where
  pub begun : base ≤ length out
  pub whole_is : out ++ concat (map (fixed_bytes 0) (asked_of bits rs)) ≡ whole
  pub all_is : all_noted (length out - base) (asked_of bits rs) spots ≡ all

pub row_put : (bits : ℕ) (r : FieldRow) (rs : List FieldRow) (base : ℕ) (old new : List ℕ) (spots next : NameSpots) (whole : List ℕ) (all : NameSpots) → (is_asked bits r.0 ≡ true → next ≡ noted (length old - base) r.1 spots)
    → (is_asked bits r.0 ≡ true → new ≡ old ++ fixed_bytes 0 r.1) → (is_asked bits r.0 ≡ false → next ≡ spots) → (is_asked bits r.0 ≡ false → new ≡ old)
    → Goes bits (r ∷ rs) base old spots whole all → Goes bits rs base new next whole all
row_put bits r rs base old new spots next whole all a b c d h =
    elim (cases_Bool (is_asked bits r.0)) [
      | inl on ↦
          let w = rw (asked_yes bits r rs on) at h.whole_is in
          let n = rw (asked_yes bits r rs on) at h.all_is in
          let f : List ℕ = fixed_bytes 0 r.1 in
          let size : length new ≡ length old + length f = ap (length {A = ℕ}) (b on) ∙ length-append old f in
          let place : length new - base ≡ (length old - base) + length f = omega (arith, size, h.begun) in
          record {
            begun = omega (arith, size, h.begun);
            whole_is = ap (λ (x : List ℕ). x ++ concat (map (fixed_bytes 0) (asked_of bits rs))) (b on) ∙ append_assoc old f (concat (map (fixed_bytes 0) (asked_of bits rs))) ∙ w;
            all_is = ap (λ (x : ℕ). all_noted x (asked_of bits rs) next) place ∙ ap (all_noted ((length old - base) + length f) (asked_of bits rs)) (a on)
                ∙ sym (noted_more (length old - base) r.1 (asked_of bits rs) spots) ∙ n;
          }
      | inr off ↦
          let w = rw (asked_no bits r rs off) at h.whole_is in
          let n = rw (asked_no bits r rs off) at h.all_is in
          record {
            begun = omega (arith, ap (length {A = ℕ}) (d off), h.begun);
            whole_is = ap (λ (x : List ℕ). x ++ concat (map (fixed_bytes 0) (asked_of bits rs))) (d off) ∙ w;
            all_is = ap (λ (x : List ℕ). all_noted (length x - base) (asked_of bits rs) next) (d off) ∙ ap (all_noted (length old - base) (asked_of bits rs)) (c off) ∙ n;
          }
    ]

-- what stood before the block still stands there behind a row
pub row_kept : (on : Bool) (f first old new : List ℕ) → (on ≡ true → new ≡ old ++ f) → (on ≡ false → new ≡ old) → length first ≤ length old → Keeps first old → Keeps first new
row_kept true f first old new b d begun h = ap (take (length first)) (b refl) ∙ take-append-le (length first) old f begun ∙ h
row_kept false f first old new b d begun h = ap (take (length first)) (d refl) ∙ h

-- behind the last row all stands
pub rows_put : (bits base : ℕ) (out : List ℕ) (spots : NameSpots) (whole : List ℕ) (all : NameSpots) → Goes bits [] base out spots whole all → out ≡ whole
rows_put bits base out spots whole all h =
    let w = rw (asked_none bits) at h.whole_is in
    sym (append-nil out) ∙ w

pub rows_noted : (bits base : ℕ) (out : List ℕ) (spots : NameSpots) (whole : List ℕ) (all : NameSpots) → Goes bits [] base out spots whole all → spots ≡ all
rows_noted bits base out spots whole all h =
    let n = rw (asked_none bits) at h.all_is in
    sym (noted_none (length out - base) spots) ∙ n
