-- What the code and the proofs go by beside Places; no public contract cites it.
use Rattle.std.specs.Prelude.{◌≡◌, ℕ, ◌+◌, zero, suc, List, [], ◌∷◌, ◌++◌, length}
use Rattle.std.proofs.Common.{arith, add-one, ap, length-append}
use Rattle.afp_serial.specs.Shown.{Rising}
use Rattle.afp_serial.proofs.Grows.{rising-snoc}
use Rattle.afp_core.specs.turns.Places.{upto}

-- they rise, and lie below n
pub upto-within : (n : ℕ) → Rising 0 (upto n) n
upto-within zero = omega arith
upto-within (suc n) = rising-last n (rising-snoc 0 (upto n) n n (upto-within n) (omega arith))
  where
    rising-last : (m : ℕ) → Rising 0 (upto m ++ m ∷ []) (m + 1) → Rising 0 (upto m ++ m ∷ []) (suc m)
    rising-last m r = rw (← add-one m) r

-- one more place, where the list has one more element
pub upto-longer : {A : Type 0} → (h : List A) (e : A) → upto (length (h ++ e ∷ [])) ≡ upto (length h) ++ length h ∷ []
upto-longer h e = let n : length (h ++ e ∷ []) ≡ suc (length h) = omega (arith, length-append h (e ∷ [])) in ap upto n
