-- Texts, byte by byte.
use Rattle.std.proofs.Common.{◌≡◌, ℕ, ◌<◌, ◌≤◌, List, [], ◌∷◌, ◌++◌, length, drop, slice_index, refl, sym, ap, ◌∙◌, arith, append_assoc, append-nil}
use Rattle.client_script_lines.specs.texts.Texts.{shown, shown_byte}

pub first_shown : (text out now : List ℕ) → 0 < length text → now ≡ out ++ shown_byte (slice_index text 0) → now ++ shown (drop 1 text) ≡ out ++ shown text
unfolding shown
first_shown [] out now h e = absurd (omega (arith, h))
first_shown (b ∷ bytes) out now h e = ap (λ (bs : List ℕ). bs ++ shown bytes) e ∙ append_assoc out (shown_byte b) (shown bytes)

pub all_shown : (text rest out now : List ℕ) → now ++ shown rest ≡ out ++ shown text → length rest ≡ 0 → now ≡ out ++ shown text
unfolding shown
all_shown text [] out now h n = sym (append-nil now) ∙ h
all_shown text (b ∷ rest) out now h n = absurd (omega (arith, n))
