-- the first place that passes a test, and the length where none does
use Rattle.std.proofs.Common.{◌≡◌, ◌∙◌, sym, ℕ, ◌+◌, Bool, true, false, List, [], ◌∷◌, suc, length, refl, arith, cond, not}
use Rattle.std.specs.Prelude.{◌||◌, Some, None, is_some, nat_lt}
use Rattle.std.specs.List.{list_any, position, position_or_len}
use Rattle.std.proofs.lemmas.Bool.{leb-false, lt-ltb}
use Rattle.std.proofs.lemmas.List.Sums.{prefix_len-le-length}

some_is : (b : Bool) (n i : ℕ) → Some i ≡ cond b (Some n) None → i ≡ n
some_is true n i e = cc e
some_is false n i e = absurd (cc e)

none_is : (b : Bool) (n : ℕ) → None ≡ cond b (Some n) None → b ≡ false
none_is true n e = absurd (cc e)
none_is false n e = refl

pub place_is : (p : ℕ → Bool) (xs : List ℕ) (i : ℕ) → Some i ≡ position p xs → i ≡ position_or_len p xs
place_is p xs i e = some_is (nat_lt (position_or_len p xs) (length xs)) (position_or_len p xs) i e

pub no_place : (p : ℕ → Bool) (xs : List ℕ) → None ≡ position p xs → length xs ≡ position_or_len p xs
no_place p xs e =
    let most = prefix_len-le-length (λ (x : ℕ). not (p x)) xs in
    let least = leb-false _ _ (none_is (nat_lt (position_or_len p xs) (length xs)) (position_or_len p xs) e) in
    omega (arith, most, least)

found_is : (b : Bool) (n : ℕ) → is_some (cond b (Some n) None) ≡ b
found_is true n = refl
found_is false n = refl

pub found : (p : ℕ → Bool) (xs : List ℕ) → is_some (position p xs) ≡ nat_lt (position_or_len p xs) (length xs)
found p xs = found_is (nat_lt (position_or_len p xs) (length xs)) (position_or_len p xs)

first_or_later : (first later : Bool) (place size : ℕ) → later ≡ nat_lt place size → (first || later) ≡ nat_lt (cond (not first) (1 + place) 0) (suc size)
first_or_later true later place size e = sym (lt-ltb 0 (suc size) (omega arith))
first_or_later false later place size e = e ∙ grind arith

-- one passes where the first has a place
pub some_place : (p : ℕ → Bool) (xs : List ℕ) → list_any p xs ≡ nat_lt (position_or_len p xs) (length xs)
some_place p [] = refl
some_place p (x ∷ xs) = first_or_later (p x) (list_any p xs) (position_or_len p xs) (length xs) (some_place p xs)
