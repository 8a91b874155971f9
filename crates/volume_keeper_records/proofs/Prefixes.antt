-- Bytes that begin with others, or do not.
use Rattle.std.proofs.Common.{◌≡◌, ◌∙◌, ◌+◌, ◌&&◌, ℕ, true, false, List, [], ◌∷◌, ◌++◌, Option, None, Some, Bor, MatchOption, ap, sym, refl, length, take, drop, nat_eq, eq-eqb, ⊎_elim, true≢false}
use Rattle.std.specs.Cmp.Lexicographic.{pointwise}
use Rattle.std.proofs.lemmas.Bool.{cases_Bool}
use Rattle.std.proofs.lemmas.List.{take-append-drop}
use Rattle.std.proofs.lemmas.Slice.Eq.{bytes_eq-Decides}
use Rattle.std.proofs.Math.Seq.{take-append_seam}

-- what stands behind p, in bytes that begin with p
begins : (p q bytes rest : List ℕ) → q ≡ p → pointwise nat_eq (take (length q) bytes) q ≡ true → rest ≡ drop (length q) bytes → bytes ≡ p ++ rest
begins p q bytes rest is same behind =
    sym (take-append-drop (length q) bytes)
    ∙ ap (λ (l : List ℕ). l ++ drop (length q) bytes) ((bytes_eq-Decides (take (length q) bytes) q).0 same ∙ is)
    ∙ ap (λ (l : List ℕ). p ++ l) (sym behind)

-- what `strip_prefix` says, of the bytes q that it was given
pub stripped : (p q bytes : List ℕ) (result : Option (Bor (List ℕ))) → q ≡ p
    → MatchOption result (pointwise nat_eq (take (length q) bytes) q ≡ false) (λ rest. (pointwise nat_eq (take (length q) bytes) q ≡ true) × (rest.now ≡ drop (length q) bytes) × (length rest.now + length q ≡ length bytes))
    → MatchOption result (pointwise nat_eq (take (length p) bytes) p ≡ false) (λ rest. bytes ≡ p ++ rest.now)
stripped p q bytes None is other = ap (λ (l : List ℕ). pointwise nat_eq (take (length l) bytes) l) (sym is) ∙ other
stripped p q bytes (Some rest) is same = begins p q bytes rest.now is same.0 same.1

-- bytes that do not begin with p are none that do
pub unlike : (p q last bytes : List ℕ) → q ≡ p → pointwise nat_eq (take (length q) bytes) q ≡ false → pointwise nat_eq (p ++ last) bytes ≡ false
unlike p q last bytes is other = ⊎_elim
    (λ (same : pointwise nat_eq (p ++ last) bytes ≡ true).
    let front : take (length p) bytes ≡ p = ap (take (length p)) (sym ((bytes_eq-Decides (p ++ last) bytes).0 same)) ∙ take-append_seam p last in
    let none : pointwise nat_eq (take (length p) bytes) p ≡ false = ap (λ (l : List ℕ). pointwise nat_eq (take (length l) bytes) l) (sym is) ∙ other in
    absurd (true≢false (sym ((bytes_eq-Decides (take (length p) bytes) p).1 front) ∙ none)))
    (λ differs. differs)
    (cases_Bool (pointwise nat_eq (p ++ last) bytes))

same_front : (p last rest : List ℕ) → pointwise nat_eq (p ++ last) (p ++ rest) ≡ pointwise nat_eq last rest
same_front [] last rest = refl
same_front (b ∷ p) last rest = (λ i. eq-eqb b b refl i && pointwise nat_eq (p ++ last) (p ++ rest)) ∙ same_front p last rest

-- where both begin with p, what stands behind it decides
pub alike : (p last bytes rest : List ℕ) → bytes ≡ p ++ rest → pointwise nat_eq (p ++ last) bytes ≡ pointwise nat_eq last rest
alike p last bytes rest is = ap (pointwise nat_eq (p ++ last)) is ∙ same_front p last rest

-- what is left to compare behind what `strip_prefix` has found
pub passed : (p q last bytes rest : List ℕ) → q ≡ p → pointwise nat_eq (take (length q) bytes) q ≡ true → rest ≡ drop (length q) bytes → pointwise nat_eq (p ++ last) bytes ≡ pointwise nat_eq last rest
passed p q last bytes rest is same behind = alike p last bytes rest (begins p q bytes rest is same behind)
