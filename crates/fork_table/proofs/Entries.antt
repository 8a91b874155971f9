-- Entries in the order of their keys: those that pass a test, after one is put in or taken out.
use Rattle.std.proofs.Common.{◌≡◌, ◌∙◌, refl, sym, ap, Bool, true, false, cond, List, [], ◌∷◌, filter, Some, None, if◌then◌else◌}
use Rattle.std.specs.Cmp.{IsTotalOrder}
use Rattle.std.specs.List.{AllByRecursion}
use Rattle.std.specs.List.Sorted.{IsStrictlySortedBy}
use Rattle.std.specs.Map.{keys_of, remove_entry}
use Rattle.std.specs.BTreeMap.{insert_entry, is_at}
use Rattle.std.specs.Ordering.{is_eq, match_ordering}
use Rattle.std.specs.declared.cmp.Ordering.{Ordering}
use Rattle.std.specs.declared.cmp.Ordering.TheVariants.{Less, Equal, Greater}
use Rattle.sorted_map.specs.map.Entries.{at}

module _ {K V : Type 0} (R : K → K → Ordering) where
  -- the key is below these
  abbrev Below : K → List (K × V) → Type 0
  Below k es = AllByRecursion (λ y. R k y ≡ Less) (keys_of es)

  below_filter : (p : K × V → Bool) (k : K) (es : List (K × V)) → Below k es → Below k (filter p es)
  below_filter p k [] a = tt
  below_filter p k (e ∷ es) a = elim (p e) as (λ b. Below k (if b then e ∷ filter p es else filter p es)) [ true ↦ (a.0, below_filter p k es a.1) | false ↦ below_filter p k es a.1 ]

  put_first : (k : K) (v : V) (es : List (K × V)) → Below k es → insert_entry R es k v ≡ (k, v) ∷ es
  put_first k v [] a = refl
  put_first k v (e ∷ es) a = ap (λ r. match_ordering r ((k, v) ∷ e ∷ es) ((e.0, v) ∷ es) (e ∷ insert_entry R es k v)) a.0

  -- an entry that is put in and does not pass
  pub other_put : (p : K × V → Bool) (k : K) (v : V) (es : List (K × V)) → at R es k ≡ None → p (k, v) ≡ false → filter p (insert_entry R es k v) ≡ filter p es
  other_put p k v [] none fails = ap (λ b. if b then (k, v) ∷ [] else []) fails
  other_put p k v (e ∷ es) none fails = elim (R k e.0) as (λ r. cond (is_eq r) (Some e.1) (at R es k) ≡ None → filter p (match_ordering r ((k, v) ∷ e ∷ es) ((e.0, v) ∷ es) (e ∷ insert_entry R es k v)) ≡ filter p (e ∷ es)) [
    | Less ↦ λ none. ap (λ b. if b then (k, v) ∷ filter p (e ∷ es) else filter p (e ∷ es)) fails
    | Equal ↦ λ none. absurd (cc none)
    | Greater ↦ λ none. ap (λ l. if p e then e ∷ l else l) (other_put p k v es none fails)
  ] none

  -- an entry that is put in and passes
  pub own_put : IsTotalOrder R → (p : K × V → Bool) (k : K) (v : V) (es : List (K × V)) → IsStrictlySortedBy R (keys_of es) → at R es k ≡ None → p (k, v) ≡ true → filter p (insert_entry R es k v) ≡ insert_entry R (filter p es) k v
  unfolding IsStrictlySortedBy
  own_put o p k v [] s none passes = ap (λ b. if b then (k, v) ∷ [] else []) passes
  own_put o p k v (e ∷ es) s none passes = elim (R k e.0) as (λ r. R k e.0 ≡ r → cond (is_eq r) (Some e.1) (at R es k) ≡ None
      → filter p (match_ordering r ((k, v) ∷ e ∷ es) ((e.0, v) ∷ es) (e ∷ insert_entry R es k v)) ≡ insert_entry R (filter p (e ∷ es)) k v) [
        | Less ↦ λ is none.
            let below : Below k (e ∷ es) = (is, further es is s.0) in
            ap (λ b. if b then (k, v) ∷ filter p (e ∷ es) else filter p (e ∷ es)) passes ∙ sym (put_first k v (filter p (e ∷ es)) (below_filter p k (e ∷ es) below))
        | Equal ↦ λ is none. absurd (cc none)
        | Greater ↦ λ is none. elim (p e) as (λ b. (if b then e ∷ filter p (insert_entry R es k v) else filter p (insert_entry R es k v)) ≡ insert_entry R (if b then e ∷ filter p es else filter p es) k v) [
          | true ↦ ap (λ l. e ∷ l) (own_put o p k v es s.1 none passes) ∙ ap (λ r. match_ordering r ((k, v) ∷ e ∷ filter p es) ((e.0, v) ∷ filter p es) (e ∷ insert_entry R (filter p es) k v)) (sym is)
          | false ↦ own_put o p k v es s.1 none passes
        ]
      ] refl none
    where
      further : (es : List (K × V)) → R k e.0 ≡ Less → Below e.0 es → Below k es
      further [] less a = tt
      further (x ∷ xs) less a = (o.trans k e.0 x.0 less a.0, further xs less a.1)

  -- an entry that is taken out and does not pass
  pub other_taken : (p : K × V → Bool) (k : K) (es : List (K × V)) → ((e : K × V) → is_eq (R k e.0) ≡ true → p e ≡ false) → filter p (remove_entry (is_at (R k)) es) ≡ filter p es
  other_taken p k [] fails = refl
  other_taken p k (e ∷ es) fails = elim (is_eq (R k e.0)) as (λ b. is_eq (R k e.0) ≡ b → filter p (cond b es (e ∷ remove_entry (is_at (R k)) es)) ≡ (if p e then e ∷ filter p es else filter p es)) [
    | true ↦ λ is. ap (λ b. if b then e ∷ filter p es else filter p es) (sym (fails e is))
    | false ↦ λ is. ap (λ l. if p e then e ∷ l else l) (other_taken p k es fails)
  ] refl

  -- an entry that is taken out and passes
  pub own_taken : (p : K × V → Bool) (k : K) (es : List (K × V)) → ((e : K × V) → is_eq (R k e.0) ≡ true → p e ≡ true) → filter p (remove_entry (is_at (R k)) es) ≡ remove_entry (is_at (R k)) (filter p es)
  own_taken p k [] passes = refl
  own_taken p k (e ∷ es) passes = elim (is_eq (R k e.0)) as (λ b. is_eq (R k e.0) ≡ b → filter p (cond b es (e ∷ remove_entry (is_at (R k)) es)) ≡ remove_entry (is_at (R k)) (if p e then e ∷ filter p es else filter p es)) [
    | true ↦ λ is. ap (λ b. cond b (filter p es) (e ∷ remove_entry (is_at (R k)) (filter p es))) (sym is) ∙ ap (λ b. remove_entry (is_at (R k)) (if b then e ∷ filter p es else filter p es)) (sym (passes e is))
    | false ↦ λ is. elim (p e) as (λ b. (if b then e ∷ filter p (remove_entry (is_at (R k)) es) else filter p (remove_entry (is_at (R k)) es)) ≡ remove_entry (is_at (R k)) (if b then e ∷ filter p es else filter p es)) [
      | true ↦ ap (λ l. e ∷ l) (own_taken p k es passes) ∙ ap (λ b. cond b (filter p es) (e ∷ remove_entry (is_at (R k)) (filter p es))) (sym is)
      | false ↦ own_taken p k es passes
    ]
  ] refl

  -- what is found among those that pass
  pub found_passing : (p : K × V → Bool) (k : K) (es : List (K × V)) → ((e : K × V) → is_eq (R k e.0) ≡ true → p e ≡ true) → at R (filter p es) k ≡ at R es k
  found_passing p k [] passes = refl
  found_passing p k (e ∷ es) passes = elim (is_eq (R k e.0)) as (λ b. is_eq (R k e.0) ≡ b → at R (if p e then e ∷ filter p es else filter p es) k ≡ cond b (Some e.1) (at R es k)) [
    | true ↦ λ is. ap (λ b. at R (if b then e ∷ filter p es else filter p es) k) (passes e is) ∙ ap (λ b. cond b (Some e.1) (at R (filter p es) k)) is
    | false ↦ λ is. elim (p e) as (λ b. at R (if b then e ∷ filter p es else filter p es) k ≡ at R es k) [
      | true ↦ ap (λ b. cond b (Some e.1) (at R (filter p es) k)) is ∙ found_passing p k es passes
      | false ↦ found_passing p k es passes
    ]
  ] refl

  -- nothing is found of a key that none has
  pub none_passing : (p : K × V → Bool) (k : K) (es : List (K × V)) → at R es k ≡ None → at R (filter p es) k ≡ None
  none_passing p k [] none = refl
  none_passing p k (e ∷ es) none = elim (is_eq (R k e.0)) as (λ b. is_eq (R k e.0) ≡ b → cond b (Some e.1) (at R es k) ≡ None → at R (if p e then e ∷ filter p es else filter p es) k ≡ None) [
    | true ↦ λ is none. absurd (cc none)
    | false ↦ λ is none. elim (p e) as (λ b. at R (if b then e ∷ filter p es else filter p es) k ≡ None) [
      | true ↦ ap (λ b. cond b (Some e.1) (at R (filter p es) k)) is ∙ none_passing p k es none
      | false ↦ none_passing p k es none
    ]
  ] refl none

  -- an entry of a new key that is put in and taken out again
  pub out_again : (k : K) (v : V) (es : List (K × V)) → R k k ≡ Equal → at R es k ≡ None → remove_entry (is_at (R k)) (insert_entry R es k v) ≡ es
  out_again k v [] itself none = ap (λ r. cond (is_eq r) [] ((k, v) ∷ [])) itself
  out_again k v (e ∷ es) itself none = elim (R k e.0) as (λ r. R k e.0 ≡ r → cond (is_eq r) (Some e.1) (at R es k) ≡ None → remove_entry (is_at (R k)) (match_ordering r ((k, v) ∷ e ∷ es) ((e.0, v) ∷ es) (e ∷ insert_entry R es k v)) ≡ e ∷ es) [
    | Less ↦ λ is none. ap (λ r. cond (is_eq r) (e ∷ es) ((k, v) ∷ remove_entry (is_at (R k)) (e ∷ es))) itself
    | Equal ↦ λ is none. absurd (cc none)
    | Greater ↦ λ is none. ap (λ r. cond (is_eq r) (insert_entry R es k v) (e ∷ remove_entry (is_at (R k)) (insert_entry R es k v))) is ∙ ap (λ l. e ∷ l) (out_again k v es itself none)
  ] refl none

  -- a key that none has takes nothing out
  pub nothing_taken : (k : K) (es : List (K × V)) → at R es k ≡ None → remove_entry (is_at (R k)) es ≡ es
  nothing_taken k [] none = refl
  nothing_taken k (e ∷ es) none = elim (is_eq (R k e.0)) as (λ b. cond b (Some e.1) (at R es k) ≡ None → cond b es (e ∷ remove_entry (is_at (R k)) es) ≡ e ∷ es) [
    | true ↦ λ none. absurd (cc none)
    | false ↦ λ none. ap (λ l. e ∷ l) (nothing_taken k es none)
  ] none
