-- A list is parted at the first element that passes a test, where one does.
use Rattle.std.proofs.Common.{◌≡◌, ◌+◌, ◌<◌, ◌||◌, Bool, true, false, List, [], ◌∷◌, length, refl, arith}
use Rattle.std.specs.List.{list_any, position_or_len}

pub some-passes : {X : Type 0} (p : X → Bool) (xs : List X) → position_or_len p xs < length xs → list_any p xs ≡ true
some-passes p [] lt = absurd (omega (arith, lt))
some-passes {X} p (x ∷ xs) lt = go (p x) refl (some-passes p xs)
  where
    go : (b : Bool) → p x ≡ b → (position_or_len p xs < length xs → list_any p xs ≡ true) → (p x || list_any p xs) ≡ true
    go true is others = rw is refl
    go false is others =
        let shorter : 1 + position_or_len p xs < length (x ∷ xs) = rw is at lt in
        rw is (others (omega (arith, shorter)))

pub none-passes : {X : Type 0} (p : X → Bool) (xs : List X) → position_or_len p xs ≡ length xs → list_any p xs ≡ false
none-passes p [] is_end = refl
none-passes {X} p (x ∷ xs) is_end = go (p x) refl (none-passes p xs)
  where
    go : (b : Bool) → p x ≡ b → (position_or_len p xs ≡ length xs → list_any p xs ≡ false) → (p x || list_any p xs) ≡ false
    go true is others =
        let none : 0 ≡ length (x ∷ xs) = rw is at is_end in
        absurd (omega (arith, none))
    go false is others =
        let same : 1 + position_or_len p xs ≡ length (x ∷ xs) = rw is at is_end in
        rw is (others (omega (arith, same)))
