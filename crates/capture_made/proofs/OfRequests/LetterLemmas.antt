-- The byte that is written is the one that was drawn.
use Rattle.std.proofs.Math.Nat.{mod-lt}
use Rattle.std.proofs.Common.{◌≡◌, ℕ, zero, suc, ◌+◌, ◌%◌, ◌<◌, [], ◌∷◌, refl, arith}
use Rattle.capture_made.specs.requests.lemma.Letters.{letter}

letter_by : (place : ℕ) → place < 8 → letter place ≡ (0x61 + place) ∷ []
letter_by zero h = refl
letter_by (suc zero) h = refl
letter_by (suc (suc zero)) h = refl
letter_by (suc (suc (suc zero))) h = refl
letter_by (suc (suc (suc (suc zero)))) h = refl
letter_by (suc (suc (suc (suc (suc zero))))) h = refl
letter_by (suc (suc (suc (suc (suc (suc zero)))))) h = refl
letter_by (suc (suc (suc (suc (suc (suc (suc zero))))))) h = refl
letter_by (suc (suc (suc (suc (suc (suc (suc (suc n)))))))) h = absurd (omega (arith, h))

pub drawn_letter : (number : ℕ) → letter (number % 8) ≡ (0x61 + number % 8) ∷ []
drawn_letter number = letter_by (number % 8) (mod-lt number (omega arith))
