-- A read up to a character stops at the first byte that is it under the mask.
use Rattle.std.proofs.Common.{◌==◌, ◌≡◌, ◌∙◌, ap, sym, refl, ℕ, suc, ◌+◌, arith, Bool, true, false, cond, List, [], ◌∷◌, length, take, Some, None, inl, inr}
use Rattle.std.specs.Prelude.{bit_and, is_some, nat_lt, position}
use Rattle.std.proofs.lemmas.Bool.{cases_lt, lt-ltb, le-ltb}
use Rattle.std.proofs.lemmas.List.Recursion.{is_position_or_len}
use Rattle.afp_serial.specs.ForkBytes.{up_to}
use Rattle.fork_bytes.specs.Line.{line_of, with_first}

lt_next : (a b : ℕ) → nat_lt a b ≡ nat_lt (1 + a) (suc b)
lt_next a b = elim (cases_lt a b) [
  | inl low ↦ lt-ltb a b low ∙ sym (lt-ltb (1 + a) (suc b) (omega (arith, low)))
  | inr high ↦ le-ltb a b high ∙ sym (le-ltb (1 + a) (suc b) (omega (arith, high)))
]

module _ (mask character : ℕ) where
  abbrev is_end : ℕ → Bool
  is_end b = bit_and b mask == character

  -- how many bytes stand before the first such one, or all
  abbrev before_end : List ℕ → ℕ
  before_end [] = 0
  before_end (b ∷ bytes) = cond (is_end b) 0 (1 + before_end bytes)

  place_is : (bytes : List ℕ) → position is_end bytes ≡ cond (nat_lt (before_end bytes) (length bytes)) (Some (before_end bytes)) None
  place_is bytes = ap (λ n. cond (nat_lt n (length bytes)) (Some n) None) (sym (is_position_or_len before_end is_end refl (λ x xs. refl) bytes))

  stopped_is : (bytes : List ℕ) → (line_of mask character bytes).stopped ≡ nat_lt (before_end bytes) (length bytes)
  stopped_is [] = refl
  stopped_is (b ∷ bytes) = elim (is_end b) as (λ t. (cond t (record { bytes = b ∷ []; stopped = true }) (with_first b (line_of mask character bytes))).stopped ≡ nat_lt (cond t 0 (1 + before_end bytes)) (length (b ∷ bytes))) [
    | true ↦ sym (lt-ltb 0 (length (b ∷ bytes)) (omega arith))
    | false ↦ stopped_is bytes ∙ lt_next (before_end bytes) (length bytes)
  ]

  bytes_are : (bytes : List ℕ) → (line_of mask character bytes).bytes ≡ cond (nat_lt (before_end bytes) (length bytes)) (take (suc (before_end bytes)) bytes) bytes
  bytes_are [] = refl
  bytes_are (b ∷ bytes) = elim (is_end b) as (λ t. (cond t (record { bytes = b ∷ []; stopped = true }) (with_first b (line_of mask character bytes))).bytes ≡ cond (nat_lt (cond t 0 (1 + before_end bytes)) (length (b ∷ bytes))) (take (suc (cond t 0 (1 + before_end bytes))) (b ∷ bytes)) (b ∷ bytes)) [
    | true ↦ ap (λ c. cond c (b ∷ []) (b ∷ bytes)) (sym (lt-ltb 0 (length (b ∷ bytes)) (omega arith)))
    | false ↦
        let next : suc (before_end bytes) ≡ 1 + before_end bytes = omega arith in
        ap (λ l. b ∷ l) (bytes_are bytes) ∙ inside (nat_lt (before_end bytes) (length bytes)) (take (suc (before_end bytes)) bytes)
        ∙ (λ i. cond (lt_next (before_end bytes) (length bytes) i) (b ∷ take (next i) bytes) (b ∷ bytes))
  ]
    where
      inside : (c : Bool) (l : List ℕ) → b ∷ cond c l bytes ≡ cond c (b ∷ l) (b ∷ bytes)
      inside true l = refl
      inside false l = refl

  pub stops : (bytes : List ℕ) → (line_of mask character bytes).stopped ≡ is_some (position is_end bytes)
  stops bytes = stopped_is bytes ∙ by (nat_lt (before_end bytes) (length bytes)) ∙ ap is_some (sym (place_is bytes))
    where
      by : (c : Bool) → c ≡ is_some (cond c (Some (before_end bytes)) None)
      by true = refl
      by false = refl

  pub ends : (bytes : List ℕ) → (line_of mask character bytes).bytes ≡ up_to (position is_end bytes) bytes
  ends bytes = bytes_are bytes ∙ by (nat_lt (before_end bytes) (length bytes)) ∙ ap (λ o. up_to o bytes) (sym (place_is bytes))
    where
      by : (c : Bool) → cond c (take (suc (before_end bytes)) bytes) bytes ≡ up_to (cond c (Some (before_end bytes)) None) bytes
      by true = let next : suc (before_end bytes) ≡ before_end bytes + 1 = omega arith in ap (λ n. take n bytes) next
      by false = refl
