-- What a plan says of the bytes afterwards.
use Rattle.std.proofs.Common.{◌≡◌, ◌∙◌, ◌==◌, refl, sym, ap, ℕ, zero, suc, ◌+◌, ◌/◌, ◌%◌, ◌<◌, ◌≤◌, List, ◌∷◌, length, max, inl, inr, arith, nat_eq}
use Rattle.std.specs.Prelude.{slice_index}
use Rattle.std.specs.Cmp.Lexicographic.{pointwise, bytes_decides}
use Rattle.std.proofs.lemmas.Bool.{cases_eq, cases_lt, cond_both, cond-true, cond-false, eqb-true, eqb-false, ne_eqb}
use Rattle.fork_bytes.specs.Blocks.{block_at, block_count, blocks_of}
use Rattle.fork_bytes.specs.Kept.{bytes_in, each_of}
use Rattle.fork_bytes.specs.Plan.{block_after, bytes_after, changes_from, changes_of, ForkPlanState, IsForkPlan}
use Rattle.fork_bytes.proofs.BlocksOf.{blocks_tell, bytes_back}
use Rattle.fork_bytes.proofs.Writes.{past_all}
use Rattle.afp_base.proofs.Facts.{cases}

each-same : (n : ℕ) (f g : ℕ → ℕ) → ((k : ℕ) → f k ≡ g k) → each_of n f ≡ each_of n g
each-same zero f g h = refl
each-same (suc n) f g h = λ i. h 0 i ∷ each-same n (λ k. f (suc k)) (λ k. g (suc k)) (λ k. h (suc k)) i

-- a block that is among none of so many is as it was
after-other : (a b : List ℕ) (i n k : ℕ) → ((j : ℕ) → i ≤ j → j < i + n → j ≡ k → ⊥) → block_after a (changes_from a b i n) k ≡ block_at a k
after-other a b i zero k other = refl
after-other a b i (suc n) k other =
    let rest : block_after a (changes_from a b (i + 1) n) k ≡ block_at a k = after-other a b (i + 1) n k (λ j low high. other j (omega arith) (omega arith)) in
    cond_both (pointwise nat_eq (block_at a i) (block_at b i)) (changes_from a b (i + 1) n) (record { index = i; bytes = block_at b i } ∷ changes_from a b (i + 1) n)
    (λ l. block_after a l k ≡ block_at a k)
    (λ same. rest)
    (λ differ. cond-false (i == k) (block_at b i) (block_after a (changes_from a b (i + 1) n) k) (ne_eqb i k (other i (omega arith) (omega arith))) ∙ rest)

-- one that is among them is as it will be
after-told : (a b : List ℕ) (i n k : ℕ) → i ≤ k → k < i + n → block_after a (changes_from a b i n) k ≡ block_at b k
after-told a b i zero k low high = absurd (omega arith)
after-told a b i (suc n) k low high =
    cond_both (pointwise nat_eq (block_at a i) (block_at b i)) (changes_from a b (i + 1) n) (record { index = i; bytes = block_at b i } ∷ changes_from a b (i + 1) n)
    (λ l. block_after a l k ≡ block_at b k)
    (λ same. elim (cases_eq i k) [
      | inl is ↦ after-other a b (i + 1) n k (λ j above below at. absurd (omega (arith, is, at)))
          ∙ ap (block_at a) (sym is) ∙ (bytes_decides (block_at a i) (block_at b i)).0 same ∙ ap (block_at b) is
      | inr other ↦ after-told a b (i + 1) n k (omega (arith, other)) (omega arith)
    ])
    (λ differ. cases (i == k)
    (λ is. cond-true (i == k) (block_at b i) (block_after a (changes_from a b (i + 1) n) k) is ∙ ap (block_at b) (eqb-true i k is))
    (λ other. cond-false (i == k) (block_at b i) (block_after a (changes_from a b (i + 1) n) k) other ∙ after-told a b (i + 1) n k (omega (arith, eqb-false i k other)) (omega arith)))

all-told : (a b : List ℕ) (k : ℕ) → block_after a (changes_of a b) k ≡ block_at b k
all-told a b k = elim (cases_lt k (max (block_count (length a)) (block_count (length b)))) [
  | inl below ↦ after-told a b 0 (max (block_count (length a)) (block_count (length b))) k (omega arith) (omega arith)
  | inr high ↦ after-other a b 0 (max (block_count (length a)) (block_count (length b))) k (λ j low under is. absurd (omega (arith, is)))
      ∙ past_all a b k (omega (arith, high)) (omega (arith, high))
]

pub plans_say : (before after : List ℕ) (plan : ForkPlanState) → IsForkPlan before after plan → bytes_after before plan ≡ after
plans_say a b plan p =
    (λ i. each_of (p.len i) (λ k. slice_index (block_after a (p.changes i) (k / 4096)) (k % 4096)))
    ∙ each-same (length b) (λ k. slice_index (block_after a (changes_of a b) (k / 4096)) (k % 4096)) (λ k. slice_index (bytes_in (blocks_of b) (k / 4096)) (k % 4096))
    (λ k. ap (λ l. slice_index l (k % 4096)) (all-told a b (k / 4096) ∙ sym (blocks_tell b (k / 4096))))
    ∙ bytes_back b
