-- The parts of a status block stand where its offsets say.
use Rattle.std.proofs.Common.{◌≡◌, ◌∙◌, ap, sym, ℕ, suc, ◌+◌, ◌<◌, List, [], ◌∷◌, ◌++◌, length, get_or, take, drop, sum_by, refl, subst, arith, append_assoc}
use Rattle.std.specs.Prelude.{Result, Ok, Err, IfOk}
use Rattle.std.specs.List.{concat}
use Rattle.std.proofs.Math.Seq.{drop-cons, take-append_seam, drop-append_seam}
use Rattle.std.proofs.lemmas.List.{length-append, take-append-drop}
use Rattle.std.proofs.lemmas.List.Folds.{concat-append}
use Rattle.std.proofs.lemmas.List.Sums.{sum_by-cons}
use Rattle.afp_serial.specs.Household.{Household}
use Rattle.afp_serial.specs.StatusBlock.{StatusOffsets, status_head, status_head_size, status_parts, status_of, offsets_of, OffsetsFindParts}

length-concat : (parts : List (List ℕ)) → length (concat parts) ≡ sum_by length parts
length-concat [] = refl
length-concat (part ∷ parts) =
    length-append part (concat parts) ∙ ap (λ (n : ℕ). length part + n) (length-concat parts)
    ∙ sym (sum_by-cons length part parts)

-- the parts from one on
concat-drop : (parts : List (List ℕ)) (k : ℕ) (d : List ℕ) → k < length parts → concat (drop k parts) ≡ get_or parts k d ++ concat (drop (suc k) parts)
concat-drop parts k d h = rw (drop-cons parts k d h)

parted : (parts : List (List ℕ)) (k : ℕ) → concat parts ≡ concat (take k parts) ++ concat (drop k parts)
parted parts k = sym (ap concat (take-append-drop k parts)) ∙ concat-append (take k parts) (drop k parts)

-- behind a head of this size and the parts before it stands the part
found : (size : ℕ) (head : List ℕ) (parts : List (List ℕ)) → length head ≡ size → (k : ℕ) (d : List ℕ) → k < length parts → take (length (get_or parts k d)) (drop (size + sum_by length (take k parts)) (head ++ concat parts)) ≡ get_or parts k d
found size head parts sized k d h =
    let before : length (head ++ concat (take k parts)) ≡ size + sum_by length (take k parts) = omega (arith, length-append head (concat (take k parts)), length-concat (take k parts)) in
    let split : head ++ concat parts ≡ (head ++ concat (take k parts)) ++ (get_or parts k d ++ concat (drop (suc k) parts)) = ap (λ (xs : List ℕ). head ++ xs) (parted parts k ∙ ap (λ (xs : List ℕ). concat (take k parts) ++ xs) (concat-drop parts k d h)) ∙ sym (append_assoc head (concat (take k parts)) (get_or parts k d ++ concat (drop (suc k) parts))) in
    rw (← before, split, drop-append_seam (head ++ concat (take k parts)) (get_or parts k d ++ concat (drop (suc k) parts))) (take-append_seam (get_or parts k d) (concat (drop (suc k) parts)))

pub head_length : (name : List ℕ) (offsets : StatusOffsets) → length (status_head name offsets) ≡ status_head_size name
head_length name offsets = simp length-append (omega arith)

offsets_find_parts : (house : Household) → OffsetsFindParts house (status_of house.server house.signature)
offsets_find_parts house =
    found (status_head_size house.server)
    (status_head house.server (offsets_of (status_head_size house.server) (status_parts house.server house.signature)))
    (status_parts house.server house.signature)
    (head_length house.server (offsets_of (status_head_size house.server) (status_parts house.server house.signature)))

offsets_of_ok : {E : Type 0} (r : Result (List ℕ) E) (house : Household) (name : List ℕ) → name ≡ house.server → IfOk r (λ block. block ≡ status_of name house.signature) → IfOk r (λ block. OffsetsFindParts house block)
offsets_of_ok (Ok block) house name is_name is_block =
    let is : block ≡ status_of house.server house.signature = is_block ∙ ap (λ (n : List ℕ). status_of n house.signature) is_name in
    subst (λ (b : List ℕ). OffsetsFindParts house b) (sym is) (offsets_find_parts house)
offsets_of_ok (Err e) house name is_name is_block = tt

-- the same of a house that another one equals
pub offsets_found : {E : Type 0} (r : Result (List ℕ) E) (inside house : Household) (name : List ℕ) → inside ≡ house → name ≡ inside.server → IfOk r (λ block. block ≡ status_of name inside.signature) → IfOk r (λ block. OffsetsFindParts house block)
offsets_found r inside house name is is_name is_block =
    subst (λ (h : Household). IfOk r (λ block. OffsetsFindParts h block)) is (offsets_of_ok r inside name is_name is_block)
