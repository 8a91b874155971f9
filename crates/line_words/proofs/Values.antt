-- the number that digits spell is at least that of a first part of them
use Rattle.std.proofs.Common.{◌≡◌, ℕ, ◌+◌, ◌*◌, ◌-◌, ◌≤◌, ◌<◌, Bool, true, false, List, [], ◌∷◌, suc, length, drop, get_or, sym, ap, ◌∙◌, refl, arith, drop-cons}
use Rattle.std.specs.Prelude.{Some, None, nat_le, if◌then◌else◌}
use Rattle.std.proofs.lemmas.Bool.{lt-leb}
use Rattle.line_words.specs.Numbers.{value_behind}

pub value-least : (value : ℕ) (digits : List ℕ) → value ≤ value_behind value digits
value-least value [] = omega arith
value-least value (digit ∷ digits) = let more = value-least (value * 10 + (digit - 48)) digits in omega (arith, more)

-- a first part that is too large
pub too_large : (digits : List ℕ) (i value most : ℕ) → i < length digits → value_behind value (drop i digits) ≡ value_behind 0 digits → most < value * 10 + (get_or digits i 0 - 48)
    → nat_le (value_behind 0 digits) most ≡ false
too_large digits i value most within e big =
    let cons : drop i digits ≡ get_or digits i 0 ∷ drop (suc i) digits = drop-cons digits i 0 within in
    let behind : value_behind (value * 10 + (get_or digits i 0 - 48)) (drop (suc i) digits) ≡ value_behind 0 digits = sym (ap (λ (l : List ℕ). value_behind value l) cons) ∙ e in
    let least = value-least (value * 10 + (get_or digits i 0 - 48)) (drop (suc i) digits) in
    lt-leb (value_behind 0 digits) most (omega (arith, behind, least, big))

pub none_there : (b : Bool) (n : ℕ) → b ≡ false → None ≡ (if b then Some n else None)
none_there true n e = absurd (cc e)
none_there false n e = refl
