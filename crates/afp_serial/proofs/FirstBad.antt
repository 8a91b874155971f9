-- The first bad element of a list.
use Rattle.std.proofs.Common.{◌≡◌, ℕ, zero, suc, ◌+◌, ◌<◌, Bool, true, false, List, [], ◌∷◌, ◌++◌, length, get_or, take, drop, refl, arith, append_assoc, below_more, subst}
use Rattle.std.specs.Prelude.{Option, Some, None, if◌then◌else◌}
use Rattle.std.proofs.Math.Seq.{take-append_seam, get_or-append_seam}
use Rattle.std.proofs.lemmas.List.{append-nil, length-append}
use Rattle.afp_serial.specs.HouseFault.{first_bad_name, first_bad_behind}
use Rattle.afp_serial.specs.Faultless.{IsFirstBad}

-- the search from an index on
abbrev pub first_bad_from : {X : Type 0} → (List X → X → Bool) → List X → ℕ → Option ℕ
first_bad_from is_bad xs i = first_bad_behind is_bad (take i xs) (drop i xs)

-- where none is found, none is bad
passed : (bad : Bool) (n : ℕ) (o : Option ℕ) → (if bad then Some n else o) ≡ None → bad ≡ false
passed true n o none = cc
passed false n o none = refl

rest_none : (bad : Bool) (n : ℕ) (o : Option ℕ) → (if bad then Some n else o) ≡ None → o ≡ None
rest_none true n o none = cc
rest_none false n o none = none

none_behind : {X : Type 0} (is_bad : List X → X → Bool) (before xs : List X) → first_bad_behind is_bad before xs ≡ None → (k : ℕ) (d : X) → k < length xs → is_bad (before ++ take k xs) (get_or xs k d) ≡ false
none_behind is_bad before [] none k d h = absurd (omega arith)
none_behind is_bad before (x ∷ rest) none zero d h = rw (append-nil before) (passed _ _ _ none)
none_behind is_bad before (x ∷ rest) none (suc k) d h =
    rw (← append_assoc before (x ∷ []) (take k rest))
    (none_behind is_bad (before ++ x ∷ []) rest (rest_none _ _ _ none) k d (omega arith))

pub none_bad : {X : Type 0} (is_bad : List X → X → Bool) (xs : List X) → first_bad_name is_bad xs ≡ None → (k : ℕ) (d : X) → k < length xs → is_bad (take k xs) (get_or xs k d) ≡ false
none_bad is_bad xs none = none_behind is_bad [] xs none

-- where one is found, it is the first: one good element more: the next one
good_more : {X : Type 0} (is_bad : List X → X → Bool) (before : List X) (x : X) (rest : List X) → ((k : ℕ) (d : X) → k < length before → is_bad (take k (before ++ x ∷ rest)) (get_or (before ++ x ∷ rest) k d) ≡ false) → is_bad before x ≡ false → (k : ℕ) (d : X) → k < length before + 1 → is_bad (take k (before ++ x ∷ rest)) (get_or (before ++ x ∷ rest) k d) ≡ false
good_more is_bad before x rest good here k d h =
    below_more (λ k. is_bad (take k (before ++ x ∷ rest)) (get_or (before ++ x ∷ rest) k d) ≡ false) (length before)
    (λ k h. good k d h)
    (rw (take-append_seam before (x ∷ rest), get_or-append_seam before x rest d) here)
    k h

found_step : {X : Type 0} (is_bad : List X → X → Bool) (before : List X) (x : X) (rest : List X) (i : ℕ) → ((k : ℕ) (d : X) → k < length before → is_bad (take k (before ++ x ∷ rest)) (get_or (before ++ x ∷ rest) k d) ≡ false) → (is_bad before x ≡ false → first_bad_behind is_bad (before ++ x ∷ []) rest ≡ Some i → IsFirstBad is_bad (before ++ x ∷ rest) i) → (bad : Bool) → is_bad before x ≡ bad → (if bad then Some (length before) else first_bad_behind is_bad (before ++ x ∷ []) rest) ≡ Some i → IsFirstBad is_bad (before ++ x ∷ rest) i
found_step is_bad before x rest i good next true here found =
    let here_at : length before ≡ i = cc in
    subst (λ (n : ℕ). IsFirstBad is_bad (before ++ x ∷ rest) n) here_at
    (record {
      within = omega (arith, length-append before (x ∷ rest));
      bad = λ d. rw (take-append_seam before (x ∷ rest), get_or-append_seam before x rest d) here;
      earlier = good;
    })
found_step is_bad before x rest i good next false here found = next here found

found_behind : {X : Type 0} (is_bad : List X → X → Bool) (before xs : List X) (i : ℕ) → ((k : ℕ) (d : X) → k < length before → is_bad (take k (before ++ xs)) (get_or (before ++ xs) k d) ≡ false) → first_bad_behind is_bad before xs ≡ Some i → IsFirstBad is_bad (before ++ xs) i
found_behind is_bad before [] i good found = let never : ⊥ = cc in absurd never
found_behind {X = X} is_bad before (x ∷ rest) i good found =
    found_step is_bad before x rest i good
    (λ here later.
    rw (append_assoc before (x ∷ []) rest) at
    (found_behind is_bad (before ++ x ∷ []) rest i
    (λ k d h. rw (append_assoc before (x ∷ []) rest) (good_more is_bad before x rest good here k d (omega (arith, length-append before (x ∷ []))))) later))
    (is_bad before x) refl found

pub is_first_bad : {X : Type 0} (is_bad : List X → X → Bool) (xs : List X) (i : ℕ) → first_bad_name is_bad xs ≡ Some i → IsFirstBad is_bad xs i
is_first_bad is_bad xs i found = found_behind is_bad [] xs i (λ k d h. absurd (omega arith)) found
