-- The bytes of keys, in their parts.
use Rattle.std.proofs.Common.{◌==◌, true, ◌&&◌, ◌≡◌, ◌∙◌, ap, refl, ℕ, List, [], ◌∷◌, ◌++◌, length, take, drop, arith}
use Rattle.std.specs.Prelude.{nat_le, slice_index}
use Rattle.std.proofs.lemmas.Bool.{and_from, eq-eqb, le-leb}
use Rattle.std.proofs.lemmas.List.{length-drop, length-take}
use Rattle.volume_spec.specs.Desktop.{icon_under}
use Rattle.volume_spec.specs.SoundVolume.{is_icon, longest_icon}
use Rattle.std.specs.Cmp.Lexicographic.{slice_cmp}
use Rattle.std.specs.Ordering.{nat_cmp, ordering_then}
use Rattle.std.specs.declared.cmp.Ordering.{Ordering}
use Rattle.std.specs.declared.cmp.Ordering.TheVariants.{Less, Equal, Greater}

-- nine bytes are four, four and one
pub nine : (l : List ℕ) → length l ≡ 9 → take 4 l ++ take 4 (drop 4 l) ++ slice_index l 8 ∷ [] ≡ l
nine [] is = absurd (omega arith)
nine (a ∷ []) is = absurd (omega arith)
nine (a ∷ b ∷ []) is = absurd (omega arith)
nine (a ∷ b ∷ c ∷ []) is = absurd (omega arith)
nine (a ∷ b ∷ c ∷ d ∷ []) is = absurd (omega arith)
nine (a ∷ b ∷ c ∷ d ∷ e ∷ []) is = absurd (omega arith)
nine (a ∷ b ∷ c ∷ d ∷ e ∷ f ∷ []) is = absurd (omega arith)
nine (a ∷ b ∷ c ∷ d ∷ e ∷ f ∷ g ∷ []) is = absurd (omega arith)
nine (a ∷ b ∷ c ∷ d ∷ e ∷ f ∷ g ∷ h ∷ []) is = absurd (omega arith)
nine (a ∷ b ∷ c ∷ d ∷ e ∷ f ∷ g ∷ h ∷ i ∷ []) is = refl
nine (a ∷ b ∷ c ∷ d ∷ e ∷ f ∷ g ∷ h ∷ i ∷ j ∷ l) is = absurd (omega arith)

then-equal : (o : Ordering) → ordering_then o Equal ≡ o
then-equal Less = refl
then-equal Equal = refl
then-equal Greater = refl

then-then : (o p q : Ordering) → ordering_then o (ordering_then p q) ≡ ordering_then (ordering_then o p) q
then-then Less p q = refl
then-then Equal p q = refl
then-then Greater p q = refl

-- keys of one length with one number more: the keys decide, and then the numbers
pub compare-pairs : (a b : List ℕ) (m n : ℕ) → length a ≡ length b → slice_cmp nat_cmp (a ++ m ∷ []) (b ++ n ∷ []) ≡ ordering_then (slice_cmp nat_cmp a b) (nat_cmp m n)
compare-pairs [] [] m n same = then-equal (nat_cmp m n)
compare-pairs [] (y ∷ ys) m n same = absurd (omega arith)
compare-pairs (x ∷ xs) [] m n same = absurd (omega arith)
compare-pairs (x ∷ xs) (y ∷ ys) m n same =
    ap (λ o. ordering_then (nat_cmp x y) o) (compare-pairs xs ys m n (omega arith)) ∙ then-then (nat_cmp x y) (slice_cmp nat_cmp xs ys) (nat_cmp m n)

-- an icon under nine bytes is formed
pub icon-formed : (key : List ℕ) (tag : ℕ) (bits : List ℕ) → length key ≡ 9 → is_icon (icon_under key tag bits) ≡ true
icon-formed key tag bits nine_long =
    let creator : List ℕ = take 4 key in
    let kind : List ℕ = take 4 (drop 4 key) in
    and_from (length creator == 4) ((length kind == 4) && nat_le (length (take longest_icon bits)) longest_icon)
    (eq-eqb (length creator) 4 (omega (arith, length-take 4 key)))
    (and_from (length kind == 4) (nat_le (length (take longest_icon bits)) longest_icon)
    (eq-eqb (length kind) 4 (omega (arith, length-take 4 (drop 4 key), length-drop 4 key)))
    (le-leb (length (take longest_icon bits)) longest_icon (omega (arith, length-take longest_icon bits))))
