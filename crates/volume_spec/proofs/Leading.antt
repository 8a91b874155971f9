-- Ways to the root: how many steps they need, and what changes of the rows leave of them.
use Rattle.std.proofs.Common.{◌==◌, ◌≡◌, ◌∙◌, ap, refl, subst, ℕ, zero, suc, ◌≤◌, ◌<◌, Bool, true, false, not, ◌&&◌, List, [], ◌∷◌, length, arith, ◌⊎◌, inl, inr}
use Rattle.std.specs.List.{list_any}
use Rattle.std.proofs.lemmas.Bool.{and_parts, and_from, or_cases, or_left, or_right, cond_both, eqb-true, cases_Bool}
use Rattle.volume_spec.specs.Edits.{is_below, without}
use Rattle.volume_spec.specs.SoundVolume.{leads_to_root}
use Rattle.volume_spec.specs.VolumeState.{Row, root_id}
use Rattle.afp_base.proofs.Facts.{never}
use Rattle.afp_base.proofs.ListFacts.{any-filter, any-still, any-weaker, length-filter-le}

-- where some row passes, and each that does gives another test or a further test with a fact
pub any-either : {A : Type 0} {B : Type 0} (p q s : A → Bool) (xs : List A) → list_any p xs ≡ true
    → ((x : A) → p x ≡ true → (q x ≡ true) ⊎ ((s x ≡ true) × B))
    → (list_any q xs ≡ true) ⊎ ((list_any s xs ≡ true) × B)
any-either p q s [] some gives = absurd (cc)
any-either p q s (x ∷ xs) some gives = elim (or_cases (p x) (list_any p xs) some) [
  | inl here ↦ elim (gives x here) [
    | inl one ↦ inl (or_left (q x) (list_any q xs) one)
    | inr other ↦ inr (or_left (s x) (list_any s xs) other.0, other.1)
  ]
  | inr later ↦ elim (any-either p q s xs later gives) [
    | inl one ↦ inl (or_right (q x) (list_any q xs) one)
    | inr other ↦ inr (or_right (s x) (list_any s xs) other.0, other.1)
  ]
]

-- the test of a step up
abbrev pub goes_up : List Row → ℕ → ℕ → Row → Bool
goes_up rows steps id row = (row.id == id) && (row.dir && leads_to_root rows steps row.parent)

-- a way is also one of more steps
pub leads-more : (rows : List Row) (n m id : ℕ) → n ≤ m → leads_to_root rows n id ≡ true → leads_to_root rows m id ≡ true
leads-more rows zero zero id less h = h
leads-more rows zero (suc m) id less h = or_left (id == root_id) (list_any (goes_up rows m id) rows) h
leads-more rows (suc n) zero id less h = absurd (omega arith)
leads-more rows (suc n) (suc m) id less h = elim (or_cases (id == root_id) (list_any (goes_up rows n id) rows) h) [
  | inl root ↦ or_left (id == root_id) (list_any (goes_up rows m id) rows) root
  | inr some ↦ or_right (id == root_id) (list_any (goes_up rows m id) rows)
      (any-weaker (goes_up rows n id) (goes_up rows m id) rows (λ row step.
      let e = and_parts (row.id == id) (row.dir && leads_to_root rows n row.parent) step in
      let f = and_parts (row.dir) (leads_to_root rows n row.parent) e.1 in
      and_from (row.id == id) (row.dir && leads_to_root rows m row.parent) e.0
      (and_from (row.dir) (leads_to_root rows m row.parent) f.0 (leads-more rows n m row.parent (omega arith) f.1))) some)
]

-- a way that passes through a node: the node leads to the root in no more steps
pub record Through (rows : List Row) (node most : ℕ) : Type 0 where
  pub steps : ℕ
  pub within : steps ≤ most
  pub leads : leads_to_root rows steps node ≡ true

through-more : (rows : List Row) (node n m : ℕ) → n ≤ m → Through rows node n → Through rows node m
through-more rows node n m less t = record { steps = t.steps; within = let h = t.within in omega arith; leads = t.leads }

-- a node that leads to the root does so without another one, or is below that one, which then leads there too
pub cut : (rows : List Row) (node n id : ℕ) → leads_to_root rows n id ≡ true
    → (leads_to_root (without node rows) n id ≡ true) ⊎ ((is_below rows n node id ≡ true) × Through rows node n)
unfolding without
cut rows node zero id h = inl h
cut rows node (suc n) id h = elim (or_cases (id == root_id) (list_any (goes_up rows n id) rows) h) [
  | inl root ↦ inl (or_left (id == root_id) (list_any (goes_up (without node rows) n id) (without node rows)) root)
  | inr some ↦ elim (cases_Bool (id == node)) [
    | inl same ↦ inr (or_left (id == node) (list_any below rows) same, record { steps = suc n; within = omega arith; leads = subst (λ q. leads_to_root rows (suc n) q ≡ true) (eqb-true id node same) h })
    | inr other ↦ elim (any-either (goes_up rows n id) kept below rows some (λ row step.
        let e = and_parts (row.id == id) (row.dir && leads_to_root rows n row.parent) step in
        let f = and_parts (row.dir) (leads_to_root rows n row.parent) e.1 in
        elim (cut rows node n row.parent f.1) [
          | inl left ↦ inl (and_from (not (row.id == node)) (goes_up (without node rows) n id row)
              (ap (λ q. not (q == node)) (eqb-true row.id id e.0) ∙ ap not other)
              (and_from (row.id == id) (row.dir && leads_to_root (without node rows) n row.parent) e.0 (and_from (row.dir) (leads_to_root (without node rows) n row.parent) f.0 left)))
          | inr met ↦ inr (and_from (row.id == id) (is_below rows n node row.parent) e.0 met.0, through-more rows node n (suc n) (omega arith) met.1)
        ])) [
          | inl left ↦ inl (or_right (id == root_id) (list_any (goes_up (without node rows) n id) (without node rows))
              (any-weaker kept (goes_up (without node rows) n id) (without node rows) (λ row both. (and_parts (not (row.id == node)) (goes_up (without node rows) n id row) both).1)
              (any-still kept (λ row. not (row.id == node)) rows (λ row both. (and_parts (not (row.id == node)) (goes_up (without node rows) n id row) both).0) left)))
          | inr met ↦ inr (or_right (id == node) (list_any below rows) met.0, met.1)
        ]
  ]
]
  where
    below : Row → Bool
    below row = (row.id == id) && is_below rows n node row.parent

    kept : Row → Bool
    kept row = not (row.id == node) && goes_up (without node rows) n id row

-- where every step up in some rows is one in others too, so is every way
pub leads-carried : (rows others : List Row) → ((id : ℕ) (q : ℕ → Bool) → list_any (λ row. (row.id == id) && (row.dir && q row.parent)) rows ≡ true → list_any (λ row. (row.id == id) && (row.dir && q row.parent)) others ≡ true)
    → (n id : ℕ) → leads_to_root rows n id ≡ true → leads_to_root others n id ≡ true
leads-carried rows others carries zero id h = h
leads-carried rows others carries (suc n) id h = elim (or_cases (id == root_id) (list_any (goes_up rows n id) rows) h) [
  | inl root ↦ or_left (id == root_id) (list_any (goes_up others n id) others) root
  | inr some ↦ or_right (id == root_id) (list_any (goes_up others n id) others)
      (any-weaker (λ row. (row.id == id) && (row.dir && leads_to_root rows n row.parent)) (goes_up others n id) others (λ row step.
      let e = and_parts (row.id == id) (row.dir && leads_to_root rows n row.parent) step in
      let f = and_parts (row.dir) (leads_to_root rows n row.parent) e.1 in
      and_from (row.id == id) (row.dir && leads_to_root others n row.parent) e.0
      (and_from (row.dir) (leads_to_root others n row.parent) f.0 (leads-carried rows others carries n row.parent f.1)))
      (carries id (leads_to_root rows n) some))
]

-- what leads to the root without a node leads there
pub leads-with : (rows : List Row) (node n id : ℕ) → leads_to_root (without node rows) n id ≡ true → leads_to_root rows n id ≡ true
unfolding without
leads-with rows node n id h = leads-carried (without node rows) rows (λ id q some. any-filter (λ row. (row.id == id) && (row.dir && q row.parent)) (λ row. not (row.id == node)) rows some) n id h

-- where a row has the id, fewer are left without it
pub without-shorter : (rows : List Row) (id : ℕ) (p : Row → Bool) → ((row : Row) → p row ≡ true → (row.id == id) ≡ true) → list_any p rows ≡ true → length (without id rows) < length rows
unfolding without
without-shorter [] id p gives some = absurd (cc)
without-shorter (row ∷ rows) id p gives some =
    let rest : length (without id rows) ≤ length rows = length-filter-le (λ row. not (row.id == id)) rows in
    cond_both (not (row.id == id)) (row ∷ without id rows) (without id rows) (λ l. length l < suc (length rows))
    (λ kept. elim (or_cases (p row) (list_any p rows) some) [
      | inl here ↦ absurd (never (row.id == id) (gives row here) kept)
      | inr later ↦ let fewer : length (without id rows) < length rows = without-shorter rows id p gives later in omega arith
    ])
    (λ gone. omega arith)

-- one row more: of a way that comes back to its first node the part behind that suffices
short-step : (k : ℕ) → ((rows : List Row) (n id : ℕ) → length rows ≤ k → leads_to_root rows n id ≡ true → leads_to_root rows k id ≡ true)
    → (fuel n : ℕ) (rows : List Row) (id : ℕ) → length rows ≤ suc k → n ≤ fuel → leads_to_root rows n id ≡ true → leads_to_root rows (suc k) id ≡ true
short-step k fewer fuel zero rows id long within h = leads-more rows zero (suc k) id (omega arith) h
short-step k fewer zero (suc n) rows id long within h = absurd (omega arith)
short-step k fewer (suc fuel) (suc n) rows id long within h = elim (or_cases (id == root_id) (list_any (goes_up rows n id) rows) h) [
  | inl root ↦ or_left (id == root_id) (list_any (goes_up rows k id) rows) root
  | inr some ↦
      let shorter : length (without id rows) < length rows = without-shorter rows id (goes_up rows n id) (λ row step. (and_parts (row.id == id) (row.dir && leads_to_root rows n row.parent) step).0) some in
      elim (any-either (goes_up rows n id) (goes_up rows k id) (λ row. true) rows some (λ row step.
      let e = and_parts (row.id == id) (row.dir && leads_to_root rows n row.parent) step in
      let f = and_parts (row.dir) (leads_to_root rows n row.parent) e.1 in
      elim (cut rows id n row.parent f.1) [
        | inl left ↦ inl (and_from (row.id == id) (row.dir && leads_to_root rows k row.parent) e.0 (and_from (row.dir) (leads_to_root rows k row.parent) f.0
            (leads-with rows id k row.parent (fewer (without id rows) n row.parent (omega arith) left))))
        | inr met ↦ inr (refl, met.1)
      ])) [
        | inl there ↦ or_right (id == root_id) (list_any (goes_up rows k id) rows) there
        | inr back ↦ let t = back.1 in short-step k fewer fuel t.steps rows id long (let w = t.within in omega arith) t.leads
      ]
]

-- no way is longer than there are rows
pub leads-short : (k : ℕ) (rows : List Row) (n id : ℕ) → length rows ≤ k → leads_to_root rows n id ≡ true → leads_to_root rows k id ≡ true
leads-short zero rows zero id long h = h
leads-short zero [] (suc n) id long h = elim (or_cases (id == root_id) false h) [ inl root ↦ root | inr none ↦ absurd (cc) ]
leads-short zero (row ∷ rows) (suc n) id long h = absurd (omega arith)
leads-short (suc k) rows n id long h = short-step k (λ rows n id. leads-short k rows n id) n n rows id long (omega arith) h
