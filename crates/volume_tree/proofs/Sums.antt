-- The bytes of the fields that are asked.
use Rattle.std.proofs.Common.{◌≡◌, ◌∙◌, ap, sym, refl, ℕ, ◌+◌, ◌≤◌, arith, List, [], ◌∷◌, length, take, drop, true, false, Some, None}
use Rattle.std.specs.Prelude.{nat_lt, if◌then◌else◌}
use Rattle.std.specs.List.{filter}
use Rattle.std.proofs.lemmas.Bool.{ltb-false, cond-true}
use Rattle.std.proofs.lemmas.List.Sums.{sum_by-cons}
use Rattle.afp_bitmap.specs.Bits.{is_asked}
use Rattle.volume_spec.specs.SetFileDirParms.{asked_bytes, set_fields, is_short_tail, field_in}
use Rattle.volume_tree.specs.lemma.Tails.{size_asked, lower_bytes}

more : (bits bit size : ℕ) (fields : List (ℕ × ℕ)) → asked_bytes bits ((bit, size) ∷ fields) ≡ size_asked bits bit size + asked_bytes bits fields
more bits bit size fields = sum_by-cons (λ (field : ℕ × ℕ). if is_asked bits field.0 then field.1 else 0) (bit, size) fields

pub all-asked : (bits : ℕ) → asked_bytes bits set_fields ≡ size_asked bits 0 2 + (size_asked bits 2 4 + (size_asked bits 3 4 + (size_asked bits 4 4 + (size_asked bits 5 32 + (size_asked bits 10 4 + (size_asked bits 11 4 + (size_asked bits 12 4 + 0)))))))
all-asked bits =
    more bits 0 2 ((2, 4) ∷ (3, 4) ∷ (4, 4) ∷ (5, 32) ∷ (10, 4) ∷ (11, 4) ∷ (12, 4) ∷ []) ∙ ap (λ n. size_asked bits 0 2 + n) (more bits 2 4 ((3, 4) ∷ (4, 4) ∷ (5, 32) ∷ (10, 4) ∷ (11, 4) ∷ (12, 4) ∷ []) ∙ ap (λ n. size_asked bits 2 4 + n) (more bits 3 4 ((4, 4) ∷ (5, 32) ∷ (10, 4) ∷ (11, 4) ∷ (12, 4) ∷ []) ∙ ap (λ n. size_asked bits 3 4 + n) (more bits 4 4 ((5, 32) ∷ (10, 4) ∷ (11, 4) ∷ (12, 4) ∷ []) ∙ ap (λ n. size_asked bits 4 4 + n) (more bits 5 32 ((10, 4) ∷ (11, 4) ∷ (12, 4) ∷ []) ∙ ap (λ n. size_asked bits 5 32 + n) (more bits 10 4 ((11, 4) ∷ (12, 4) ∷ []) ∙ ap (λ n. size_asked bits 10 4 + n) (more bits 11 4 ((12, 4) ∷ []) ∙ ap (λ n. size_asked bits 11 4 + n) (more bits 12 4 [])))))))

pub lower-0 : (bits : ℕ) → lower_bytes bits 0 ≡ 0
unfolding lower_bytes
lower-0 bits = refl

pub lower-2 : (bits : ℕ) → lower_bytes bits 2 ≡ size_asked bits 0 2 + 0
unfolding lower_bytes
lower-2 bits = more bits 0 2 []

pub lower-3 : (bits : ℕ) → lower_bytes bits 3 ≡ size_asked bits 0 2 + (size_asked bits 2 4 + 0)
unfolding lower_bytes
lower-3 bits = more bits 0 2 ((2, 4) ∷ []) ∙ ap (λ n. size_asked bits 0 2 + n) (more bits 2 4 [])

pub lower-4 : (bits : ℕ) → lower_bytes bits 4 ≡ size_asked bits 0 2 + (size_asked bits 2 4 + (size_asked bits 3 4 + 0))
unfolding lower_bytes
lower-4 bits = more bits 0 2 ((2, 4) ∷ (3, 4) ∷ []) ∙ ap (λ n. size_asked bits 0 2 + n) (more bits 2 4 ((3, 4) ∷ []) ∙ ap (λ n. size_asked bits 2 4 + n) (more bits 3 4 []))

pub lower-5 : (bits : ℕ) → lower_bytes bits 5 ≡ size_asked bits 0 2 + (size_asked bits 2 4 + (size_asked bits 3 4 + (size_asked bits 4 4 + 0)))
unfolding lower_bytes
lower-5 bits =
    more bits 0 2 ((2, 4) ∷ (3, 4) ∷ (4, 4) ∷ []) ∙ ap (λ n. size_asked bits 0 2 + n) (more bits 2 4 ((3, 4) ∷ (4, 4) ∷ []) ∙ ap (λ n. size_asked bits 2 4 + n) (more bits 3 4 ((4, 4) ∷ []) ∙ ap (λ n. size_asked bits 3 4 + n) (more bits 4 4 [])))

pub lower-10 : (bits : ℕ) → lower_bytes bits 10 ≡ size_asked bits 0 2 + (size_asked bits 2 4 + (size_asked bits 3 4 + (size_asked bits 4 4 + (size_asked bits 5 32 + 0))))
unfolding lower_bytes
lower-10 bits =
    more bits 0 2 ((2, 4) ∷ (3, 4) ∷ (4, 4) ∷ (5, 32) ∷ []) ∙ ap (λ n. size_asked bits 0 2 + n) (more bits 2 4 ((3, 4) ∷ (4, 4) ∷ (5, 32) ∷ []) ∙ ap (λ n. size_asked bits 2 4 + n) (more bits 3 4 ((4, 4) ∷ (5, 32) ∷ []) ∙ ap (λ n. size_asked bits 3 4 + n) (more bits 4 4 ((5, 32) ∷ []) ∙ ap (λ n. size_asked bits 4 4 + n) (more bits 5 32 []))))

pub lower-11 : (bits : ℕ) → lower_bytes bits 11 ≡ size_asked bits 0 2 + (size_asked bits 2 4 + (size_asked bits 3 4 + (size_asked bits 4 4 + (size_asked bits 5 32 + (size_asked bits 10 4 + 0)))))
unfolding lower_bytes
lower-11 bits =
    more bits 0 2 ((2, 4) ∷ (3, 4) ∷ (4, 4) ∷ (5, 32) ∷ (10, 4) ∷ []) ∙ ap (λ n. size_asked bits 0 2 + n) (more bits 2 4 ((3, 4) ∷ (4, 4) ∷ (5, 32) ∷ (10, 4) ∷ []) ∙ ap (λ n. size_asked bits 2 4 + n) (more bits 3 4 ((4, 4) ∷ (5, 32) ∷ (10, 4) ∷ []) ∙ ap (λ n. size_asked bits 3 4 + n) (more bits 4 4 ((5, 32) ∷ (10, 4) ∷ []) ∙ ap (λ n. size_asked bits 4 4 + n) (more bits 5 32 ((10, 4) ∷ []) ∙ ap (λ n. size_asked bits 5 32 + n) (more bits 10 4 [])))))

pub lower-12 : (bits : ℕ) → lower_bytes bits 12 ≡ size_asked bits 0 2 + (size_asked bits 2 4 + (size_asked bits 3 4 + (size_asked bits 4 4 + (size_asked bits 5 32 + (size_asked bits 10 4 + (size_asked bits 11 4 + 0))))))
unfolding lower_bytes
lower-12 bits =
    more bits 0 2 ((2, 4) ∷ (3, 4) ∷ (4, 4) ∷ (5, 32) ∷ (10, 4) ∷ (11, 4) ∷ []) ∙ ap (λ n. size_asked bits 0 2 + n) (more bits 2 4 ((3, 4) ∷ (4, 4) ∷ (5, 32) ∷ (10, 4) ∷ (11, 4) ∷ []) ∙ ap (λ n. size_asked bits 2 4 + n) (more bits 3 4 ((4, 4) ∷ (5, 32) ∷ (10, 4) ∷ (11, 4) ∷ []) ∙ ap (λ n. size_asked bits 3 4 + n) (more bits 4 4 ((5, 32) ∷ (10, 4) ∷ (11, 4) ∷ []) ∙ ap (λ n. size_asked bits 4 4 + n) (more bits 5 32 ((10, 4) ∷ (11, 4) ∷ []) ∙ ap (λ n. size_asked bits 5 32 + n) (more bits 10 4 ((11, 4) ∷ []) ∙ ap (λ n. size_asked bits 10 4 + n) (more bits 11 4 []))))))

-- a tail that is not short has all that is asked
pub long-enough : (bits : ℕ) (tail : List ℕ) → is_short_tail bits tail ≡ false → asked_bytes bits set_fields ≤ length tail
unfolding is_short_tail
long-enough bits tail h = ltb-false (length tail) (asked_bytes bits set_fields) h

pub field-is : (bits bit size start : ℕ) (tail : List ℕ) → is_asked bits bit ≡ true → start ≡ lower_bytes bits bit → field_in bits tail bit size ≡ Some (take size (drop start tail))
unfolding field_in lower_bytes
field-is bits bit size start tail asked start_is =
    cond-true (is_asked bits bit) (Some (take size (drop (asked_bytes bits (filter (λ (field : ℕ × ℕ). nat_lt field.0 bit) set_fields)) tail))) None asked
    ∙ ap (λ n. Some (take size (drop n tail))) (sym start_is)

pub field-long : (bits bit size start : ℕ) (tail : List ℕ) → is_asked bits bit ≡ true → start + size_asked bits bit size ≤ length tail → start + size ≤ length tail
field-long bits bit size start tail asked fits = let same : size_asked bits bit size ≡ size = cond-true (is_asked bits bit) size 0 asked in omega arith
