-- Lists of changes: block by block, and none where nothing differs.
use Rattle.std.proofs.Common.{◌≡◌, ◌∙◌, refl, sym, ap, ℕ, zero, suc, ◌+◌, ◌-◌, ◌*◌, ◌<◌, ◌≤◌, Bool, true, false, if◌then◌else◌, List, [], ◌∷◌, ◌++◌, length, get_or, max, inl, inr, arith, nat_eq, append-nil}
use Rattle.std.proofs.lemmas.Bool.{cases_lt, cond-true, cond-false}
use Rattle.std.proofs.lemmas.List.{get_or_past}
use Rattle.std.specs.Cmp.Lexicographic.{pointwise, bytes_decides}
use Rattle.fork_bytes.specs.declared.block.Block.{Block}
use Rattle.fork_bytes.specs.Blocks.{block_at, block_count}
use Rattle.fork_bytes.specs.Kept.{is_empty}
use Rattle.fork_bytes.specs.Plan.{with_change, changes_from, changes_of, added_by}
use Rattle.fork_bytes.proofs.Trimmed.{get_or-block, get_or-trimmed, length-block, same_trimmed}
use Rattle.afp_base.specs.ForkBytes.{taken}
use Rattle.afp_base.proofs.Facts.{cases}

-- blocks with the same bytes
pub same_block : (a b : List ℕ) (i : ℕ) → ((j : ℕ) → j < 4096 → get_or a (4096 * i + j) 0 ≡ get_or b (4096 * i + j) 0) → block_at a i ≡ block_at b i
same_block a b i same = same_trimmed (taken a (4096 * i) 4096) (taken b (4096 * i) 4096) (λ j. sym (get_or-trimmed (taken a (4096 * i) 4096) j) ∙ elim (cases_lt j 4096) [
  | inl below ↦ get_or-block a i j below ∙ same j below ∙ sym (get_or-block b i j below)
  | inr past ↦ get_or_past (block_at a i) j 0 (omega (arith, length-block a i)) ∙ sym (get_or_past (block_at b i) j 0 (omega (arith, length-block b i)))
] ∙ get_or-trimmed (taken b (4096 * i) 4096) j)

pub no_change : (i : ℕ) (old new : List ℕ) (changes : List Block) → old ≡ new → with_change i old new changes ≡ changes
no_change i old new changes same = cond-true (pointwise nat_eq old new) changes (record { index = i; bytes = new } ∷ changes) ((bytes_decides old new).1 same)

pub changes-none : (a b : List ℕ) (i n : ℕ) → ((k : ℕ) → i ≤ k → k < i + n → block_at a k ≡ block_at b k) → changes_from a b i n ≡ []
changes-none a b i zero same = refl
changes-none a b i (suc n) same =
    no_change i (block_at a i) (block_at b i) (changes_from a b (i + 1) n) (same i (omega arith) (omega arith))
    ∙ changes-none a b (i + 1) n (λ k low high. same k (omega arith) (omega arith))

change-front : (i : ℕ) (old new : List ℕ) (xs ys : List Block) → with_change i old new (xs ++ ys) ≡ with_change i old new xs ++ ys
change-front i old new xs ys = cases (pointwise nat_eq old new)
    (λ same. cond-true (pointwise nat_eq old new) (xs ++ ys) (record { index = i; bytes = new } ∷ xs ++ ys) same
    ∙ ap (λ l. l ++ ys) (sym (cond-true (pointwise nat_eq old new) xs (record { index = i; bytes = new } ∷ xs) same)))
    (λ other. cond-false (pointwise nat_eq old new) (xs ++ ys) (record { index = i; bytes = new } ∷ (xs ++ ys)) other
    ∙ ap (λ l. l ++ ys) (sym (cond-false (pointwise nat_eq old new) xs (record { index = i; bytes = new } ∷ xs) other)))

pub changes-join : (a b : List ℕ) (i j m n t : ℕ) → t ≡ m + n → j ≡ i + m → changes_from a b i t ≡ changes_from a b i m ++ changes_from a b j n
changes-join a b i j zero n t e f =
    let at : i ≡ j = omega arith in
    let many : t ≡ n = omega arith in
    λ k. changes_from a b (at k) (many k)
changes-join a b i j (suc m) n zero e f = absurd (omega arith)
changes-join a b i j (suc m) n (suc t) e f =
    ap (with_change i (block_at a i) (block_at b i)) (changes-join a b (i + 1) j m n t (omega arith) (omega arith))
    ∙ change-front i (block_at a i) (block_at b i) (changes_from a b (i + 1) m) (changes_from a b j n)

-- the changes of so many blocks and the next one
pub changes-next : (a b : List ℕ) (i n : ℕ) → changes_from a b i (n + 1) ≡ changes_from a b i n ++ with_change (i + n) (block_at a (i + n)) (block_at b (i + n)) []
changes-next a b i n = changes-join a b i (i + n) n 1 (n + 1) refl refl

-- all changes are those of some blocks, where nothing differs before and behind
pub changes-outside : (a b : List ℕ) (first n : ℕ) → first + n ≤ max (block_count (length a)) (block_count (length b))
    → ((k : ℕ) → k < first → block_at a k ≡ block_at b k) → ((k : ℕ) → first + n ≤ k → block_at a k ≡ block_at b k) → changes_of a b ≡ changes_from a b first n
changes-outside a b first n within before behind =
    let whole = max (block_count (length a)) (block_count (length b)) in
    changes-join a b 0 first first (whole - first) whole (omega arith) (omega arith)
    ∙ ap (λ l. l ++ changes_from a b first (whole - first)) (changes-none a b 0 first (λ k low high. before k (omega arith)))
    ∙ changes-join a b first (first + n) n (whole - first - n) (whole - first) (omega arith) refl
    ∙ ap (λ l. changes_from a b first n ++ l) (changes-none a b (first + n) (whole - first - n) (λ k low high. behind k low))
    ∙ append-nil (changes_from a b first n)

pub added-append : (before : List ℕ) (xs ys : List Block) → added_by before (xs ++ ys) ≡ added_by before xs + added_by before ys
added-append before [] ys = omega arith
added-append before (x ∷ xs) ys = omega (arith, added-append before xs ys)

added-change : (before : List ℕ) (i : ℕ) (old new : List ℕ) → old ≡ block_at before i → added_by before (with_change i old new []) ≡ (if pointwise nat_eq old new then 0 else (if is_empty old then 1 else 0))
added-change before i old new is = by_test (pointwise nat_eq old new)
  where
    one : (if is_empty (block_at before i) then 1 else 0) + 0 ≡ (if is_empty old then 1 else 0)
    one = omega (arith, ap {B = ℕ} (λ l. if is_empty l then 1 else 0) is)

    by_test : (same : Bool) → added_by before (if same then [] else record { index = i; bytes = new } ∷ []) ≡ (if same then 0 else (if is_empty old then 1 else 0))
    by_test true = refl
    by_test false = one

-- a block more is looked at, and noted where it differs
pub record Noted (a b : List ℕ) (first n : ℕ) (list : List Block) (added : ℕ) : Type 0 where
  pub list_is : list ≡ changes_from a b first n
  pub added_is : added ≡ added_by a list

pub noted : (a b : List ℕ) (first n index : ℕ) (list more : List Block) (added most : ℕ) (old new : List ℕ) → index ≡ first + n → Noted a b first n list added → old ≡ block_at a index → new ≡ block_at b index
    → more ≡ list ++ with_change index old new [] → most ≡ added + (if pointwise nat_eq old new then 0 else (if is_empty old then 1 else 0)) → Noted a b first (n + 1) more most
noted a b first n index list more added most old new at s o w m k = record {
  list_is =
      m ∙ (λ i. s.list_is i ++ with_change (at i) (o i) (w i) [])
      ∙ (λ i. changes_from a b first n ++ with_change (first + n) (block_at a (at i)) (block_at b (at i)) [])
      ∙ sym (changes-next a b first n);
  added_is =
      k ∙ (λ i. s.added_is i + sym (added-change a index old new o) i) ∙ sym (ap (added_by a) m ∙ added-append a list (with_change index old new []));
}

-- at most one of the changes is noted
pub at_most_one : (same none : Bool) → (if same then 0 else (if none then 1 else 0)) ≤ 1
at_most_one true none = omega arith
at_most_one false true = omega arith
at_most_one false false = omega arith
