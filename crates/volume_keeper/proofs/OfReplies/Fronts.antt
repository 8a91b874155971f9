-- The entries that fit one after the other are those of the list.
use Rattle.std.proofs.Common.{◌≡◌, ◌∙◌, ◌⊎◌, ap, sym, refl, ℕ, zero, suc, ◌+◌, ◌-◌, ◌==◌, ◌≤◌, ◌<◌, min, arith, Bool, true, false, not, ◌&&◌, ◌||◌, List, [], ◌∷◌, length, take, inl, inr, add-zero}
use Rattle.std.specs.Prelude.{nat_le, nat_lt, sum_by}
use Rattle.std.specs.List.{list_all}
use Rattle.std.proofs.lemmas.Bool.{and_parts, and_from, cond_both, eq-eqb, ltb-false, or_left, or_right}
use Rattle.std.proofs.lemmas.List.{length-drop}
use Rattle.std.proofs.lemmas.List.Sums.{sum_by-cons}
use Rattle.afp_base.specs.Limits.{payload_limit}
use Rattle.volume_spec.proofs.ListReplies.{entries-go-as-far}
use Rattle.volume_spec.specs.Shared.{Opened}
use Rattle.volume_spec.specs.Enumerate.{ListAsked, counted_children, entries, entry_size, fits_reply, from_start, list_head, longest_entry}
use Rattle.volume_spec.specs.VolumeState.{Row}
use Rattle.volume_keeper.specs.replies.lemma.Filling.{can_follow, front, counted_from, filled}

module _ (size : Row → ℕ) (asked : ListAsked) where
  limit : ℕ
  limit = min asked.size payload_limit

  abbrev short : Row → Bool
  short row = nat_le (size row) (longest_entry asked.wide)

  -- whether entries can stand behind so many bytes
  abbrev fits_from : ℕ → List Row → Bool
  fits_from used nodes = nat_le (used + sum_by size nodes) (min asked.size payload_limit) && list_all short nodes

  fits-cons : (used : ℕ) (row : Row) (rows : List Row) → short row ≡ true → fits_from used (row ∷ rows) ≡ fits_from (used + size row) rows
  fits-cons used row rows small =
      let sum : used + sum_by size (row ∷ rows) ≡ used + size row + sum_by size rows = more used (size row) (sum_by size rows) (sum_by size (row ∷ rows)) (sum_by-cons size row rows) in
      λ i. nat_le (sum i) (min asked.size payload_limit) && (small i && list_all short rows)
    where
      more : (a b c d : ℕ) → d ≡ b + c → a + d ≡ a + b + c
      more a b c d is = omega arith

  front-is : (used left : ℕ) (rows : List Row) → front size asked used left rows ≡ take (length (front size asked used left rows)) rows
  front-is used left [] = refl
  front-is used zero (row ∷ rows) = refl
  front-is used (suc left) (row ∷ rows) =
      cond_both (can_follow asked used (size row)) (row ∷ front size asked (used + size row) left rows) [] (λ l. l ≡ take (length l) (row ∷ rows))
      (λ fits. ap (λ l. row ∷ l) (front-is (used + size row) left rows)) (λ unfit. refl)

  front-few : (used left : ℕ) (rows : List Row) → length (front size asked used left rows) ≤ left
  front-few used left [] = omega arith
  front-few used zero (row ∷ rows) = omega arith
  front-few used (suc left) (row ∷ rows) =
      let rest : length (front size asked (used + size row) left rows) ≤ left = front-few (used + size row) left rows in
      cond_both (can_follow asked used (size row)) (row ∷ front size asked (used + size row) left rows) [] (λ l. length l ≤ suc left) (λ fits. omega arith) (λ unfit. omega arith)

  front-there : (used left : ℕ) (rows : List Row) → length (front size asked used left rows) ≤ length rows
  front-there used left [] = omega arith
  front-there used zero (row ∷ rows) = omega arith
  front-there used (suc left) (row ∷ rows) =
      let rest : length (front size asked (used + size row) left rows) ≤ length rows = front-there (used + size row) left rows in
      cond_both (can_follow asked used (size row)) (row ∷ front size asked (used + size row) left rows) [] (λ l. length l ≤ suc (length rows)) (λ fits. omega arith) (λ unfit. omega arith)

  follow-parts : (used n : ℕ) → can_follow asked used n ≡ true → (nat_le n (longest_entry asked.wide) ≡ true) × (nat_le (used + n) (min asked.size payload_limit) ≡ true)
  follow-parts used n h = and_parts (nat_le n (longest_entry asked.wide)) (nat_le (used + n) (min asked.size payload_limit)) h

  none-within : (used : ℕ) → nat_le used (min asked.size payload_limit) ≡ true → fits_from used [] ≡ true
  none-within used here = let same : used + 0 ≡ used = omega arith in and_from (nat_le (used + 0) (min asked.size payload_limit)) true (ap (λ n. nat_le n (min asked.size payload_limit)) same ∙ here) refl

  -- they fit, where what is before them does
  front-within : (used left : ℕ) (rows : List Row) → nat_le used (min asked.size payload_limit) ≡ true → fits_from used (front size asked used left rows) ≡ true
  front-within used left [] here = none-within used here
  front-within used zero (row ∷ rows) here = none-within used here
  front-within used (suc left) (row ∷ rows) here =
      cond_both (can_follow asked used (size row)) (row ∷ front size asked (used + size row) left rows) [] (λ l. fits_from used l ≡ true)
      (λ fits. let e = follow-parts used (size row) fits in fits-cons used row (front size asked (used + size row) left rows) e.0 ∙ front-within (used + size row) left rows e.1)
      (λ unfit. none-within used here)

  -- there are none, or they fit
  front-fits : (used left : ℕ) (rows : List Row) → (length (front size asked used left rows) ≡ 0) ⊎ (fits_from used (front size asked used left rows) ≡ true)
  front-fits used left [] = inl refl
  front-fits used zero (row ∷ rows) = inl refl
  front-fits used (suc left) (row ∷ rows) =
      cond_both (can_follow asked used (size row)) (row ∷ front size asked (used + size row) left rows) [] (λ l. (length l ≡ 0) ⊎ (fits_from used l ≡ true))
      (λ fits. let e = follow-parts used (size row) fits in inr (fits-cons used row (front size asked (used + size row) left rows) e.0 ∙ front-within (used + size row) left rows e.1))
      (λ unfit. inl refl)

  -- one that cannot follow does not fit
  one-not : (used : ℕ) (row : Row) → can_follow asked used (size row) ≡ false → fits_from used (row ∷ []) ≡ false
  one-not used row cannot =
      let sum : sum_by size (row ∷ []) ≡ size row = sum_by-cons size row [] ∙ add-zero (size row) in
      ap (λ n. nat_le (used + n) (min asked.size payload_limit) && (short row && true)) sum ∙ swap (nat_le (used + size row) (min asked.size payload_limit)) (short row) cannot
    where
      swap : (a b : Bool) → (b && a) ≡ false → (a && (b && true)) ≡ false
      swap true true h = absurd (cc)
      swap true false h = refl
      swap false b h = refl

  -- one that can follow fits
  one-does : (used : ℕ) (row : Row) → can_follow asked used (size row) ≡ true → fits_from used (row ∷ []) ≡ true
  one-does used row can = let e = follow-parts used (size row) can in fits-cons used row [] e.0 ∙ front-within (used + size row) 0 [] e.1

  -- the first fits where some are put, and does not where none are
  abbrev FirstOf : ℕ → ℕ → List Row → Type 0
  FirstOf used left rows = ((fits_from used (take 1 rows) ≡ false) × (length (front size asked used left rows) ≡ 0)) ⊎ ((fits_from used (take 1 rows) ≡ true) × (length (front size asked used left rows) ≡ 0 → ⊥))

  first-of : (used left : ℕ) (rows : List Row) → (left ≡ 0 → ⊥) → 0 < length rows → FirstOf used left rows
  first-of used zero rows some there = absurd (some refl)
  first-of used (suc left) [] some there = absurd (omega arith)
  first-of used (suc left) (row ∷ rows) some there =
      cond_both (can_follow asked used (size row)) (row ∷ front size asked (used + size row) left rows) []
      (λ (f : List Row). ((fits_from used (row ∷ []) ≡ false) × (length f ≡ 0)) ⊎ ((fits_from used (row ∷ []) ≡ true) × (length f ≡ 0 → ⊥)))
      (λ can. inr (one-does used row can, λ gone. absurd (omega arith)))
      (λ cannot. inl (one-not used row cannot, refl))

  -- they are all that were asked, or all that are there, or one more does not fit
  front-stops : (used left : ℕ) (rows : List Row) → let n = length (front size asked used left rows) in (n ≡ left) ⊎ ((n ≡ length rows) ⊎ (fits_from used (take (suc n) rows) ≡ false))
  front-stops used left [] = inr (inl refl)
  front-stops used zero (row ∷ rows) = inl refl
  front-stops used (suc left) (row ∷ rows) =
      cond_both (can_follow asked used (size row)) (row ∷ front size asked (used + size row) left rows) []
      (λ l. (length l ≡ suc left) ⊎ ((length l ≡ suc (length rows)) ⊎ (fits_from used (take (suc (length l)) (row ∷ rows)) ≡ false)))
      (λ fits.
      let e = follow-parts used (size row) fits in
      let n : ℕ = length (front size asked (used + size row) left rows) in
      elim (front-stops (used + size row) left rows) [
        | inl all ↦ inl (ap suc all)
        | inr rest ↦ elim rest [
          | inl there ↦ inr (inl (ap suc there))
          | inr unfit ↦ inr (inr (fits-cons used row (take (suc n) rows) e.0 ∙ unfit))
        ]
      ])
      (λ unfit. inr (inr (one-not used row unfit)))

-- the entries that are put are the list's
pub filled-entries : (rows : List Row) (opens : List Opened) (asked : ListAsked) (dir place : ℕ) → counted_from rows asked dir place ≡ from_start rows asked dir
    → filled rows opens asked dir place list_head asked.count ≡ entries rows opens asked dir
unfolding fits_reply
filled-entries rows opens asked dir place begins =
    ap (λ l. front size asked list_head asked.count l) begins
    ∙ front-is size asked list_head asked.count list
    ∙ sym (entries-go-as-far rows opens asked dir n (front-few size asked list_head asked.count list) (front-there size asked list_head asked.count list) passes stops)
  where
    size : Row → ℕ
    size = entry_size rows opens asked

    list : List Row
    list = from_start rows asked dir

    n : ℕ
    n = length (front size asked list_head asked.count list)

    passes : ((n == 0) || fits_reply rows opens asked (take n list)) ≡ true
    passes = elim (front-fits size asked list_head asked.count list) [
      | inl none ↦ or_left (n == 0) (fits_reply rows opens asked (take n list)) (eq-eqb n 0 none)
      | inr fits ↦ or_right (n == 0) (fits_reply rows opens asked (take n list)) (ap (fits_reply rows opens asked) (sym (front-is size asked list_head asked.count list)) ∙ fits)
    ]

    one-more : n + 1 ≡ suc n
    one-more = omega arith

    stops : ((n == asked.count) || ((n == length list) || not (fits_reply rows opens asked (take (n + 1) list)))) ≡ true
    stops = elim (front-stops size asked list_head asked.count list) [
      | inl all ↦ or_left (n == asked.count) ((n == length list) || not (fits_reply rows opens asked (take (n + 1) list))) (eq-eqb n asked.count all)
      | inr rest ↦ or_right (n == asked.count) ((n == length list) || not (fits_reply rows opens asked (take (n + 1) list))) (elim rest [
        | inl there ↦ or_left (n == length list) (not (fits_reply rows opens asked (take (n + 1) list))) (eq-eqb n (length list) there)
        | inr unfit ↦ or_right (n == length list) (not (fits_reply rows opens asked (take (n + 1) list))) (ap not (ap (λ k. fits_reply rows opens asked (take k list)) one-more ∙ unfit))
      ])
    ]

module _ (rows : List Row) (opens : List Opened) (asked : ListAsked) (dir place : ℕ) (begins : counted_from rows asked dir place ≡ from_start rows asked dir) (some : asked.count ≡ 0 → ⊥) (somewhere : asked.start ≡ 0 → ⊥) (there : nat_lt (length (counted_children rows asked dir)) asked.start ≡ false) where
  first-is : FirstOf (entry_size rows opens asked) asked list_head asked.count (from_start rows asked dir)
  first-is =
      let enough : asked.start ≤ length (counted_children rows asked dir) = ltb-false (length (counted_children rows asked dir)) asked.start there in
      let left : length (from_start rows asked dir) ≡ length (counted_children rows asked dir) - (asked.start - 1) = length-drop (asked.start - 1) (counted_children rows asked dir) in
      first-of (entry_size rows opens asked) asked list_head asked.count (from_start rows asked dir) some (omega (arith, somewhere))

  pub first-unfit : length (filled rows opens asked dir place list_head asked.count) ≡ 0 → fits_reply rows opens asked (take 1 (from_start rows asked dir)) ≡ false
  unfolding fits_reply
  first-unfit none = elim first-is [
    | inl unfit ↦ unfit.0
    | inr fits ↦ absurd (fits.1 (sym (ap (λ l. length (front (entry_size rows opens asked) asked list_head asked.count l)) begins) ∙ none))
  ]

  pub first-fits : (length (filled rows opens asked dir place list_head asked.count) ≡ 0 → ⊥) → fits_reply rows opens asked (take 1 (from_start rows asked dir)) ≡ true
  unfolding fits_reply
  first-fits some_put = elim first-is [
    | inl unfit ↦ absurd (some_put (ap (λ l. length (front (entry_size rows opens asked) asked list_head asked.count l)) begins ∙ unfit.1))
    | inr fits ↦ fits.0
  ]
