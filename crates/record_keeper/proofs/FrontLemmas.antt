-- The number in front of bytes, and the order of the bytes.
use Rattle.std.proofs.Common.{◌≡◌, ℕ, zero, suc, ◌+◌, ◌-◌, ◌*◌, ◌^◌, ◌<◌, ◌≤◌, List, [], ◌∷◌, ◌++◌, length, get_or, take, drop, replicate, refl, sym, ap, ◌∙◌, arith, inl, inr}
use Rattle.std.proofs.Math.Nat.{mul-le-mul_right}
use Rattle.std.proofs.lemmas.Bool.{cases_lt, cases_order}
use Rattle.std.proofs.lemmas.Bool.Decides.{nat_tests}
use Rattle.std.proofs.lemmas.List.{get_or_append_left, get_or-append_right, get_or-drop, get_or-replicate, get_or-take, get_or_past, length-take-le}
use Rattle.std.specs.Cmp.Lexicographic.{slice_cmp, nat_list_cmp_total}
use Rattle.std.specs.Ordering.{nat_cmp, ordering_reverse}
use Rattle.std.specs.declared.cmp.Ordering.TheVariants.{Less, Equal, Greater}
use Rattle.byteorder.specs.Endian.{big_from, big_number}
use Rattle.byteorder.specs.Numbers.{big_from-cons, big_from-lt}
use Rattle.afp_base.specs.Bytes.{IsBytes}
use Rattle.afp_base.proofs.Numbers.{IsBytes-rest, big_number_none}

cmp_less : (x y : ℕ) → x < y → nat_cmp x y ≡ Less
cmp_less x y lt = grind (arith, nat_tests)

cmp_same : (x y : ℕ) → x ≡ y → nat_cmp x y ≡ Equal
cmp_same x y same = grind (arith, nat_tests)

-- bytes with a lower front stand lower
pub front_less : (n : ℕ) (xs ys : List ℕ) → IsBytes xs → IsBytes ys → big_number n xs < big_number n ys → slice_cmp nat_cmp xs ys ≡ Less
front_less zero xs ys hx hy lt = absurd (omega arith)
front_less (suc n) [] [] hx hy lt = absurd (omega arith)
front_less (suc n) [] (y ∷ ys) hx hy lt = refl
front_less (suc n) (x ∷ xs) [] hx hy lt = let none = big_number_none (suc n) in absurd (omega (arith, none))
front_less (suc n) (x ∷ xs) (y ∷ ys) hx hy lt =
    let cx = big_from-cons 0 n x xs in
    let cy = big_from-cons 0 n y ys in
    elim (cases_order x y) [
      | inl same ↦ rw (cmp_same x y same) (front_less n xs ys (IsBytes-rest x xs hx) (IsBytes-rest y ys hy) (let whole : x * 256 ^ n ≡ y * 256 ^ n = ap (λ (z : ℕ). z * 256 ^ n) same in omega (arith, cx, cy)))
      | inr (inl less) ↦ rw (cmp_less x y less) refl
      | inr (inr more) ↦
          let fit = big_from-lt 0 n ys (IsBytes-rest y ys hy) in
          let le : (y + 1) * 256 ^ n ≤ x * 256 ^ n = mul-le-mul_right (256 ^ n) (omega arith) in
          let wide : (y + 1) * 256 ^ n ≡ y * 256 ^ n + 256 ^ n = omega arith in
          absurd (omega (arith, cx, cy))
    ]

-- and with a higher front higher
pub front_greater : (n : ℕ) (xs ys : List ℕ) → IsBytes xs → IsBytes ys → big_number n ys < big_number n xs → slice_cmp nat_cmp xs ys ≡ Greater
front_greater n xs ys hx hy lt = nat_list_cmp_total.antisymm xs ys ∙ ap ordering_reverse (front_less n ys xs hy hx lt)

-- bytes that are alike at n places have one front
same_front : (i n : ℕ) (xs ys : List ℕ) → ((k : ℕ) → k < i + n → get_or xs k 0 ≡ get_or ys k 0) → big_from i n xs ≡ big_from i n ys
same_front i zero xs ys same = refl
same_front i (suc n) xs ys same =
    let first = same i (omega arith) in
    let rest = same_front (suc i) n xs ys (λ k lt. same k (omega arith)) in
    rw (first, rest) refl

-- the front of bytes with zeros behind them, or of the first of more
pub padded_front : (n size : ℕ) (bytes : List ℕ) → size ≤ length bytes → size ≤ n → (size < n → length bytes ≤ size) → big_number n (take size bytes ++ drop size (replicate n 0)) ≡ big_number n bytes
padded_front n size bytes within small whole =
    let zeros : List ℕ = drop size (replicate n 0) in
    let len = length-take-le size bytes within in
    same_front 0 n (take size bytes ++ zeros) bytes (λ k lt.
    elim (cases_lt k size) [
      | inl low ↦ get_or_append_left (take size bytes) zeros 0 k (omega (arith, len)) ∙ get_or-take size bytes k 0 low
      | inr high ↦
          let behind = get_or-append_right (take size bytes) zeros size k 0 len high in
          let zero_there : get_or zeros (k - size) 0 ≡ 0 = get_or-drop size (replicate n 0) (k - size) 0 ∙ get_or-replicate n (size + (k - size)) 0 0 (omega arith) in
          let past = get_or_past bytes k 0 (omega (arith, whole (omega arith))) in
          behind ∙ zero_there ∙ sym past
    ])
