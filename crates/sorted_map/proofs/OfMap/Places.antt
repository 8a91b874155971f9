-- What a search finds among entries in order, and what an edit there does.
use Rattle.std.proofs.Common.{◌≡◌, ◌∙◌, refl, sym, ap, subst, ℕ, zero, suc, ◌+◌, ◌-◌, ◌<◌, ◌≤◌, Bool, true, false, cond, inl, inr, List, [], ◌∷◌, length, Option, Some, None, Result, Ok, Err, IfOk, IfErr, is_some, arith}
use Rattle.std.specs.Prelude.{slice_index_or, slice_set, OnErr, if◌then◌else◌}
use mathlib.Core.Bool.{false≢true}
use Rattle.std.specs.Cmp.{IsTotalOrder, alike_right, eq_by_cmp_equiv}
use Rattle.std.specs.List.{insert, remove, AllByRecursion, SwappedAt}
use Rattle.std.specs.List.Sorted.{IsStrictlySortedBy, IsSearchInRange, IsBinarySearchResult, IsSortedBy}
use Rattle.std.specs.Map.{keys_of, remove_entry, update}
use Rattle.std.specs.BTreeMap.{insert_entry, is_at}
use Rattle.std.specs.Ordering.{eq_by_cmp, is_lt, is_eq, match_ordering, ordering_reverse}
use Rattle.std.specs.declared.cmp.Ordering.{Ordering}
use Rattle.std.specs.declared.cmp.Ordering.TheVariants.{Less, Equal, Greater}
use Rattle.std.proofs.lemmas.List.{get_or-map, get_or_default, get_or_read, get_or-set_same, get_or-set_other, length-set, set-set, set_comm}
use Rattle.std.proofs.lemmas.Bool.{cases_eq}
use Rattle.std.proofs.lemmas.List.Sorted.{searchable_from_sorted}
use Rattle.std.proofs.lemmas.Map.{NonePasses, lookup-remove_entry, none_passes_from_lookup}
use Rattle.std.proofs.lemmas.Map.Keys.{Less-from_sorted, IsDistinct-from_sorted}
use Rattle.std.proofs.lemmas.Map.Entries.{length-keys_of}
use Rattle.sorted_map.specs.map.Entries.{at, IsAt, exchanged}
use Rattle.sorted_map.specs.map.lemma.Entries.{with_value, with_swapped, IsGapFor}

module _ {K : Type 0} {R : K → K → Ordering} (o : IsTotalOrder R) where
  turned : (x y : K) (r : Ordering) → R x y ≡ r → R y x ≡ ordering_reverse r
  turned x y r e = o.antisymm y x ∙ ap ordering_reverse e

  same_key : (k q : K) → is_eq (R k q) ≡ is_eq (R q k)
  same_key k q = (eq_by_cmp_equiv o).symm k q

  abbrev asks : K → K → Bool
  asks = eq_by_cmp R

pub order_none : {K : Type 0} (V : Type 0) (R : K → K → Ordering) → IsStrictlySortedBy R (keys_of {K = K} {X = V} [])
unfolding IsStrictlySortedBy
order_none V R = tt

-- another value at a place keeps the keys
pub keys_stay : {K V : Type 0} (es : List (K × V)) (i : ℕ) → i < length es → (e : K × V) → e ≡ slice_index_or es i e → (v : V) → keys_of (slice_set es i (e.0, v)) ≡ keys_of es
keys_stay [] i h e read v = refl
keys_stay (x ∷ es) zero h e read v = λ j. (read j).0 ∷ keys_of es
keys_stay (x ∷ es) (suc i) h e read v = ap (λ l. x.0 ∷ l) (keys_stay es i (omega arith) e read v)

pub order_stays : {K V : Type 0} (R : K → K → Ordering) {es whole : List (K × V)} {i : ℕ} → es ≡ whole → i < length whole → IsStrictlySortedBy R (keys_of es) → (e : K × V) → e ≡ slice_index_or es i e → (v : V)
    → IsStrictlySortedBy R (keys_of (slice_set es i (e.0, v)))
order_stays R {es = es} {i = i} is within s e read v = subst (IsStrictlySortedBy R) (sym (keys_stay es i (subst (λ l. i < length l) (sym is) within) e read v)) s

pub on_err : {X Y : Type 0} (r : Result X Y) (P : Type 0) → P → OnErr r P
on_err (Ok x) P p = tt
on_err (Err y) P p = p

pub of_err : {X Y : Type 0} (r : Result X Y) (y : Y) (P : Y → Type 0) → r ≡ Err y → IfErr r P → P y
of_err r y P is h = subst (λ s. IfErr s P) is h

pub of_ok : {X Y : Type 0} (r : Result X Y) (x : X) (P : X → Type 0) → r ≡ Ok x → IfOk r P → P x
of_ok r x P is p = subst (λ (t : Result _ _). IfOk t P) is p

all_map : {K : Type 0} (P Q : K → Type 0) (ks : List K) → ((k : K) → P k → Q k) → AllByRecursion P ks → AllByRecursion Q ks
all_map P Q [] f a = tt
all_map P Q (k ∷ ks) f a = (f k a.0, all_map P Q ks f a.1)

both_once : {V : Type 0} (b : Bool) (x y z : Option V) → cond b x (cond b y z) ≡ cond b x z
both_once true x y z = refl
both_once false x y z = refl

module _ {K V : Type 0} {R : K → K → Ordering} (o : IsTotalOrder R) where
  abbrev pub InOrder : List (K × V) → Type 0
  InOrder es = IsStrictlySortedBy R (keys_of es)

  -- neighbours rise
  less_next : (es : List (K × V)) (k : ℕ) (d : K × V) → InOrder es → k + 1 < length es → R (slice_index_or es k d).0 (slice_index_or es (k + 1) d).0 ≡ Less
  less_next es k d s h =
      let l : k + 1 < length (keys_of es) = omega (arith, length-keys_of es) in
      let first : (slice_index_or es k d).0 ≡ slice_index_or (keys_of es) k d.0 = sym (get_or-map (λ (e : K × V). e.0) es k d d.0 (omega arith)) in
      let second : (slice_index_or es (k + 1) d).0 ≡ slice_index_or (keys_of es) (k + 1) d.0 = sym (get_or-map (λ (e : K × V). e.0) es (k + 1) d d.0 h) in
      (λ i. R (first i) (second i))
      ∙ Less-from_sorted R (keys_of es) k (k + 1) d.0 s (omega arith) l

  rises : (es : List (K × V)) → InOrder es → IsSortedBy (λ a b. is_lt (R a.0 b.0)) es
  rises es s k d low high = ap is_lt (turned o _ _ Less (less_next es k d s (omega arith)))

  pub searched : (es : List (K × V)) (q : K) (r : Result ℕ ℕ) → InOrder es → IsSearchInRange r (length es) → IsBinarySearchResult (λ e. R e.0 q) es r
      → IfOk r (IsAt R es q) × IfErr r (IsGapFor R es q)
  searched es q (Ok i) s within same = (record { within = within; same = same }, tt)
  searched es q (Err i) s within parted =
      let up = searchable_from_sorted o (λ (e : K × V). e.0) es q (rises es s) in (
        tt,
        record {
          within = within;
          lower = λ j d l. (parted up).0 j d (omega arith) l;
          higher = λ j d l h. (parted up).1 j d l h;
        },
      )

  -- keys before a lower one are lower
  less_before : (es : List (K × V)) (q : K) (n j k : ℕ) (d : K × V) → InOrder es → k ≡ n + j → k < length es → R (slice_index_or es k d).0 q ≡ Less → R (slice_index_or es j d).0 q ≡ Less
  less_before es q zero j k d s k_is h low = let same : k ≡ j = omega (arith, k_is) in subst (λ i. R (slice_index_or es i d).0 q ≡ Less) same low
  less_before es q (suc n) j k d s k_is h low =
      o.trans _ _ q (less_next es j d s (omega (arith, k_is, h))) (less_before es q n (j + 1) k d s (omega (arith, k_is)) h low)

  -- a query above the last key
  pub behind_last : (es : List (K × V)) (q : K) (n : ℕ) (e : K × V) → InOrder es → n + 1 ≡ length es → R (slice_index_or es n e).0 q ≡ Less → IsGapFor R es q (length es)
  behind_last es q n e s n_is low = record {
    within = omega arith;
    lower = λ j d l.
        let there : slice_index_or es n d ≡ slice_index_or es n e = get_or_default es n d e (omega (arith, n_is)) in
        less_before es q (n - j) j n d s (omega (arith, n_is, l)) (omega (arith, n_is)) ((λ i. R (there i).0 q) ∙ low);
    higher = λ j d l h. absurd (omega (arith, l, h));
  }

  -- the query is above the first i keys
  abbrev AboveFirst : K → List (K × V) → ℕ → Type 0
  AboveFirst q es zero = Unit {0}
  AboveFirst q [] (suc i) = ⊥
  AboveFirst q (e ∷ es) (suc i) = (R q e.0 ≡ Greater) × AboveFirst q es i

  -- what the query answers at the i-th key
  abbrev AnswersAt : K → List (K × V) → ℕ → Ordering → Type 0
  AnswersAt q [] i r = Unit {0}
  AnswersAt q (e ∷ es) zero r = R q e.0 ≡ r
  AnswersAt q (e ∷ es) (suc i) r = AnswersAt q es i r

  -- a lower key at the first i places
  above : (q : K) (es : List (K × V)) (i : ℕ) → i ≤ length es → ((j : ℕ) (d : K × V) → j < i → R (slice_index_or es j d).0 q ≡ Less) → AboveFirst q es i
  above q es zero h low = tt
  above q [] (suc i) h low = absurd (omega arith)
  above q (e ∷ es) (suc i) h low = (turned o e.0 q Less (low 0 e (omega arith)), above q es i (omega arith) (λ j d l. low (suc j) d (omega arith)))

  -- keys before a found one are lower
  above_found : (q : K) (es : List (K × V)) (i : ℕ) → InOrder es → IsAt R es q i → AboveFirst q es i × AnswersAt q es i Equal
  unfolding IsStrictlySortedBy
  above_found q [] i s f = absurd (omega (arith, f.within))
  above_found q (e ∷ es) zero s f = (tt, turned o e.0 q Equal (f.same e))
  above_found q (e ∷ es) (suc i) s f =
      let rest = above_found q es i s.1 (record { within = omega (arith, f.within); same = f.same }) in
      let less : R e.0 (slice_index_or es i e).0 ≡ Less = all_at es i (λ y. R e.0 y ≡ Less) s.0 (omega (arith, f.within)) e in
      let low : R e.0 q ≡ Less = sym (alike_right o _ q e.0 (f.same e)) ∙ less in
      ((turned o e.0 q Less low, rest.0), rest.1)
    where
      all_at : (es : List (K × V)) (i : ℕ) (P : K → Type 0) → AllByRecursion P (keys_of es) → i < length es → (d : K × V) → P (slice_index_or es i d).0
      all_at [] i P a h d = absurd (omega arith)
      all_at (e ∷ es) zero P a h d = a.0
      all_at (e ∷ es) (suc i) P a h d = all_at es i P a.1 (omega arith) d

  -- the next key is higher
  next_higher : (q : K) (es : List (K × V)) (i : ℕ) → i ≤ length es → ((j : ℕ) (d : K × V) → i ≤ j → j < length es → R (slice_index_or es j d).0 q ≡ Greater) → AnswersAt q es i Less
  next_higher q [] i h high = tt
  next_higher q (e ∷ es) zero h high = turned o e.0 q Greater (high 0 e (omega arith) (omega arith))
  next_higher q (e ∷ es) (suc i) h high = next_higher q es i (omega arith) (λ j d l k. high (suc j) d (omega arith) (omega arith))

  -- ---- what is found
  found_value : (q : K) (es : List (K × V)) (i : ℕ) → AboveFirst q es i → AnswersAt q es i Equal → i < length es → (d : K × V) → at R es q ≡ Some (slice_index_or es i d).1
  found_value q [] i a s h d = absurd (omega arith)
  found_value q (e ∷ es) zero a s h d = ap (λ r. cond (is_eq r) (Some e.1) (at R es q)) s
  found_value q (e ∷ es) (suc i) a s h d = ap (λ r. cond (is_eq r) (Some e.1) (at R es q)) a.0 ∙ found_value q es i a.1 s (omega arith) d

  pub at_place : (es : List (K × V)) (q : K) (i : ℕ) → InOrder es → IsAt R es q i → (d : K × V) → at R es q ≡ Some (slice_index_or es i d).1
  at_place es q i s f d = let a = above_found q es i s f in found_value q es i a.0 a.1 f.within d

  none_higher : (q : K) (es : List (K × V)) → ((j : ℕ) (d : K × V) → j < length es → R (slice_index_or es j d).0 q ≡ Greater) → at R es q ≡ None
  none_higher q [] high = refl
  none_higher q (e ∷ es) high = ap (λ r. cond (is_eq r) (Some e.1) (at R es q)) (turned o e.0 q Greater (high 0 e (omega arith))) ∙ none_higher q es (λ j d l. high (suc j) d (omega arith))

  none_here : (q : K) (es : List (K × V)) (i : ℕ) → AboveFirst q es i → ((j : ℕ) (d : K × V) → i ≤ j → j < length es → R (slice_index_or es j d).0 q ≡ Greater) → at R es q ≡ None
  none_here q es zero a high = none_higher q es (λ j d l. high j d (omega arith) l)
  none_here q [] (suc i) a high = refl
  none_here q (e ∷ es) (suc i) a high = ap (λ r. cond (is_eq r) (Some e.1) (at R es q)) a.0 ∙ none_here q es i a.1 (λ j d l h. high (suc j) d (omega arith) (omega arith))

  pub at_gap : (es : List (K × V)) (q : K) (i : ℕ) → IsGapFor R es q i → at R es q ≡ None
  at_gap es q i f = none_here q es i (above q es i f.within f.lower) f.higher

  -- ---- edits at the place are edits by the key
  between : (k : K) (v : V) (es : List (K × V)) (i : ℕ) → AboveFirst k es i → AnswersAt k es i Less → insert es i (k, v) ≡ insert_entry R es k v
  between k v [] zero a n = refl
  between k v [] (suc i) a n = absurd a
  between k v (e ∷ es) zero a n = ap (λ r. match_ordering r ((k, v) ∷ e ∷ es) ((e.0, v) ∷ es) (e ∷ insert_entry R es k v)) (sym n)
  between k v (e ∷ es) (suc i) a n = ap (λ l. e ∷ l) (between k v es i a.1 n) ∙ ap (λ r. match_ordering r ((k, v) ∷ e ∷ es) ((e.0, v) ∷ es) (e ∷ insert_entry R es k v)) (sym a.0)

  pub inserted : (es : List (K × V)) (k : K) (v : V) (i : ℕ) → IsGapFor R es k i → insert es i (k, v) ≡ insert_entry R es k v
  inserted es k v i f = between k v es i (above k es i f.within f.lower) (next_higher k es i f.within f.higher)

  over : (k : K) (v : V) (es : List (K × V)) (i : ℕ) → AboveFirst k es i → AnswersAt k es i Equal → i < length es → (d : K × V) → slice_set es i ((slice_index_or es i d).0, v) ≡ insert_entry R es k v
  over k v [] i a n h d = absurd (omega arith)
  over k v (e ∷ es) zero a n h d = ap (λ r. match_ordering r ((k, v) ∷ e ∷ es) ((e.0, v) ∷ es) (e ∷ insert_entry R es k v)) (sym n)
  over k v (e ∷ es) (suc i) a n h d = ap (λ l. e ∷ l) (over k v es i a.1 n (omega arith) d) ∙ ap (λ r. match_ordering r ((k, v) ∷ e ∷ es) ((e.0, v) ∷ es) (e ∷ insert_entry R es k v)) (sym a.0)

  pub written : (es : List (K × V)) (k : K) (v : V) (i : ℕ) → InOrder es → IsAt R es k i → (d : K × V) → slice_set es i ((slice_index_or es i d).0, v) ≡ insert_entry R es k v
  written es k v i s f d = let a = above_found k es i s f in over k v es i a.0 a.1 f.within d

  gone : (k : K) (es : List (K × V)) (i : ℕ) → AboveFirst k es i → AnswersAt k es i Equal → i < length es → remove es i ≡ remove_entry (is_at (R k)) es
  gone k [] i a n h = absurd (omega arith)
  gone k (e ∷ es) zero a n h = ap (λ r. cond (is_eq r) es (e ∷ remove_entry (is_at (R k)) es)) (sym n)
  gone k (e ∷ es) (suc i) a n h = ap (λ l. e ∷ l) (gone k es i a.1 n (omega arith)) ∙ ap (λ r. cond (is_eq r) es (e ∷ remove_entry (is_at (R k)) es)) (sym a.0)

  pub removed : (es : List (K × V)) (k : K) (i : ℕ) → InOrder es → IsAt R es k i → remove es i ≡ remove_entry (is_at (R k)) es
  removed es k i s f = let a = above_found k es i s f in gone k es i a.0 a.1 f.within

  pub none_removed : (es : List (K × V)) (k : K) → at R es k ≡ None → remove_entry (is_at (R k)) es ≡ es
  none_removed es k none = passed es (none_passes_from_lookup (is_at (R k)) es none)
    where
      passed : (es : List (K × V)) → NonePasses (is_at (R k)) es → remove_entry (is_at (R k)) es ≡ es
      passed [] a = refl
      passed (e ∷ es) a = ap (λ b. cond b es (e ∷ remove_entry (is_at (R k)) es)) a.0 ∙ ap (λ l. e ∷ l) (passed es a.1)

  -- ---- the order stays
  all_through : (P : K → Type 0) (k : K) (v : V) (es : List (K × V)) → P k → AllByRecursion P (keys_of es) → AllByRecursion P (keys_of (insert_entry R es k v))
  all_through P k v [] p a = (p, tt)
  all_through P k v (e ∷ es) p a = elim (R k e.0) as (λ r. AllByRecursion P (keys_of (match_ordering r ((k, v) ∷ e ∷ es) ((e.0, v) ∷ es) (e ∷ insert_entry R es k v)))) [
    | Less ↦ (p, a)
    | Equal ↦ a
    | Greater ↦ (a.0, all_through P k v es p a.1)
  ]

  pub order_inserted : (k : K) (v : V) (es : List (K × V)) → InOrder es → InOrder (insert_entry R es k v)
  unfolding IsStrictlySortedBy
  order_inserted k v [] s = (tt, tt)
  order_inserted k v (e ∷ es) s = elim (R k e.0) as (λ r. R k e.0 ≡ r → InOrder (match_ordering r ((k, v) ∷ e ∷ es) ((e.0, v) ∷ es) (e ∷ insert_entry R es k v))) [
    | Less ↦ λ is. ((is, all_map (λ y. R e.0 y ≡ Less) (λ y. R k y ≡ Less) (keys_of es) (λ y h. o.trans k e.0 y is h) s.0), s)
    | Equal ↦ λ is. s
    | Greater ↦ λ is. (all_through (λ y. R e.0 y ≡ Less) k v es (turned o k e.0 Greater is) s.0, order_inserted k v es s.1)
  ] refl

  all_left : (P : K → Type 0) (test : K → Bool) (es : List (K × V)) → AllByRecursion P (keys_of es) → AllByRecursion P (keys_of (remove_entry test es))
  all_left P test [] a = tt
  all_left P test (e ∷ es) a = elim (test e.0) as (λ b. AllByRecursion P (keys_of (cond b es (e ∷ remove_entry test es)))) [ true ↦ a.1 | false ↦ (a.0, all_left P test es a.1) ]

  pub order_removed : (test : K → Bool) (es : List (K × V)) → InOrder es → InOrder (remove_entry test es)
  unfolding IsStrictlySortedBy
  order_removed test [] s = s
  order_removed test (e ∷ es) s = elim (test e.0) as (λ b. InOrder (cond b es (e ∷ remove_entry test es))) [ true ↦ s.1 | false ↦ (all_left (λ y. R e.0 y ≡ Less) test es s.0, order_removed test es s.1) ]

  -- ---- look-ups after an edit
  pub at_inserted : (k : K) (v : V) (q : K) (es : List (K × V)) → at R (insert_entry R es k v) q ≡ update (eq_by_cmp R) (at R es) k (Some v) q
  at_inserted k v q [] = ap (λ b. cond b (Some v) None) (same_key o q k)
  at_inserted k v q (e ∷ es) = elim (R k e.0) as (λ r. R k e.0 ≡ r → at R (match_ordering r ((k, v) ∷ e ∷ es) ((e.0, v) ∷ es) (e ∷ insert_entry R es k v)) q ≡ update (eq_by_cmp R) (at R (e ∷ es)) k (Some v) q) [
    | Less ↦ λ is. ap (λ b. cond b (Some v) (at R (e ∷ es) q)) (same_key o q k)
    | Equal ↦ λ is.
        let alike : is_eq (R q e.0) ≡ is_eq (R k q) = ap is_eq (sym (alike_right o k e.0 q is)) ∙ same_key o q k in
        ap (λ b. cond b (Some v) (at R es q)) alike ∙ sym (both_once (is_eq (R k q)) (Some v) (Some e.1) (at R es q)) ∙ ap (λ b. cond (is_eq (R k q)) (Some v) (cond b (Some e.1) (at R es q))) (sym alike)
    | Greater ↦ λ is. ap (λ x. cond (is_eq (R q e.0)) (Some e.1) x) (at_inserted k v q es) ∙ apart is
  ] refl
    where
      apart : R k e.0 ≡ Greater → cond (is_eq (R q e.0)) (Some e.1) (cond (is_eq (R k q)) (Some v) (at R es q)) ≡ cond (is_eq (R k q)) (Some v) (cond (is_eq (R q e.0)) (Some e.1) (at R es q))
      apart is = elim (R k q) as (λ r. R k q ≡ r → cond (is_eq (R q e.0)) (Some e.1) (cond (is_eq r) (Some v) (at R es q)) ≡ cond (is_eq r) (Some v) (cond (is_eq (R q e.0)) (Some e.1) (at R es q))) [
        | Less ↦ λ e. refl
        | Equal ↦ λ same. ap (λ r. cond (is_eq r) (Some e.1) (Some v)) (sym (o.congr k q e.0 same) ∙ is)
        | Greater ↦ λ e. refl
      ] refl

  pub at_removed : (k q : K) (es : List (K × V)) → InOrder es → at R (remove_entry (is_at (R k)) es) q ≡ update (eq_by_cmp R) (at R es) k None q
  at_removed k q es s = lookup-remove_entry (eq_by_cmp_equiv o) (is_at (R k)) (λ x y h. one x y h) q es (IsDistinct-from_sorted R (keys_of es) s)
    where
      one : (x y : K) → is_at (R k) x ≡ true → is_at (R k) y ≡ eq_by_cmp R x y
      one x y h = (eq_by_cmp_equiv o).congr k x y h

  -- ---- the same as the code goes: a slice that is searched, and the list that it shows
  pub got : {es given whole : List (K × V)} {q : K} {i : ℕ} → given ≡ es → es ≡ whole → InOrder es → IsAt R given q i → (d : K × V) → Some (slice_index_or given i d).1 ≡ at R whole q
  got {given = given} {q = q} {i = i} given_is whole_is s f d = sym (at_place given q i (subst InOrder (sym given_is) s) f d) ∙ ap (λ l. at R l q) (given_is ∙ whole_is)

  pub got_none : {es given whole : List (K × V)} {q : K} {i : ℕ} → given ≡ es → es ≡ whole → IsGapFor R given q i → None ≡ at R whole q
  got_none {given = given} {q = q} {i = i} given_is whole_is f = sym (at_gap given q i f) ∙ ap (λ l. at R l q) (given_is ∙ whole_is)

  pub put_over : {es given whole : List (K × V)} {k : K} {i : ℕ} → given ≡ es → es ≡ whole → InOrder es → IsAt R given k i → (old : K × V) → old ≡ slice_index_or es i old → (w v : V) → w ≡ v
      → slice_set es i (old.0, w) ≡ insert_entry R whole k v
  put_over {es = es} {k = k} {i = i} given_is whole_is s f old read w v w_is =
      let there : IsAt R es k i = subst (λ l. IsAt R l k i) given_is f in
      (λ j. slice_set es i ((read j).0, w_is j)) ∙ written es k v i s there old ∙ ap (λ l. insert_entry R l k v) whole_is

  pub order_over : {es given : List (K × V)} {k : K} {i : ℕ} → given ≡ es → InOrder es → IsAt R given k i → (old : K × V) → old ≡ slice_index_or es i old → (w : V) → InOrder (slice_set es i (old.0, w))
  order_over {es = es} {k = k} {i = i} given_is s f old read w =
      subst InOrder (sym (put_over given_is (λ j. es) s f old read w w (λ j. w))) (order_inserted k w es s)

  pub put_new : {es given whole new : List (K × V)} {i : ℕ} (k : K) (v : V) → given ≡ es → es ≡ whole → IsGapFor R given k i → new ≡ insert es i (k, v) → new ≡ insert_entry R whole k v
  put_new {es = es} {i = i} k v given_is whole_is f new_is = new_is ∙ inserted es k v i (subst (λ l. IsGapFor R l k i) given_is f) ∙ ap (λ l. insert_entry R l k v) whole_is

  pub updated : {new : List (K × V)} (whole : List (K × V)) (k : K) (v : V) → new ≡ insert_entry R whole k v → (q : K) → at R new q ≡ update (eq_by_cmp R) (at R whole) k (Some v) q
  updated whole k v is q = ap (λ l. at R l q) is ∙ at_inserted k v q whole

  pub order_new : {new : List (K × V)} (es : List (K × V)) (k : K) (v : V) → InOrder es → new ≡ insert_entry R es k v → InOrder new
  order_new es k v s is = subst InOrder (sym is) (order_inserted k v es s)

  pub taken : {es given new : List (K × V)} {k : K} {i : ℕ} → given ≡ es → InOrder es → IsAt R given k i → new ≡ remove es i → new ≡ remove_entry (is_at (R k)) es
  taken {es = es} {k = k} {i = i} given_is s f new_is = new_is ∙ removed es k i s (subst (λ l. IsAt R l k i) given_is f)

  pub taken_value : {es given : List (K × V)} {k : K} {i : ℕ} → given ≡ es → InOrder es → IsAt R given k i → (e : K × V) → e ≡ slice_index_or es i e → Some e.1 ≡ at R es k
  taken_value {es = es} {k = k} {i = i} given_is s f e read = (λ j. Some (read j).1) ∙ sym (at_place es k i s (subst (λ l. IsAt R l k i) given_is f) e)

  pub none_taken : {es given : List (K × V)} {k : K} {i : ℕ} → given ≡ es → IsGapFor R given k i → es ≡ remove_entry (is_at (R k)) es
  none_taken {es = es} {k = k} {i = i} given_is f = sym (none_removed es k (at_gap es k i (subst (λ l. IsGapFor R l k i) given_is f)))

  pub put_with : {es given new : List (K × V)} {i : ℕ} (k : K) (v : V) → given ≡ es → IsGapFor R given k i → (b : Bool) → b ≡ true → new ≡ (if b then insert es i (k, v) else es)
      → (x : Option V) → x ≡ Some v → new ≡ with_value R es k x
  put_with {es = es} {i = i} k v given_is f b b_is new_is x x_is =
      new_is ∙ ap (λ t. if t then insert es i (k, v) else es) b_is ∙ inserted es k v i (subst (λ l. IsGapFor R l k i) given_is f) ∙ ap (λ y. with_value R es k y) (sym x_is)

  -- an entry, where a place is within
  witness : (es : List (K × V)) (i : ℕ) → i < length es → K × V
  witness [] i h = absurd (omega arith)
  witness (e ∷ es) i h = e

  -- a key that is found is no key that is not
  pub not_both : {es given : List (K × V)} {k : K} {i : ℕ} → given ≡ es → InOrder es → IsAt R given k i → at R es k ≡ None → ⊥
  not_both {es = es} {k = k} {i = i} given_is s f none =
      let first : K × V = witness es i (let there : IsAt R es k i = subst (λ l. IsAt R l k i) given_is f in there.within) in
      some_none (sym (at_place es k i s (subst (λ l. IsAt R l k i) given_is f) first) ∙ none)
    where
      some_none : {v : V} → Some v ≡ None → ⊥
      some_none e = cc

  -- ---- two keys change places
  at_alike : (a b : K) → asks o a b ≡ true → (es : List (K × V)) → at R es a ≡ at R es b
  at_alike a b same [] = refl
  at_alike a b same (e ∷ es) = (λ i. cond ((eq_by_cmp_equiv o).congr a b e.0 same i) (Some e.1) (at_alike a b same es i))

  -- where neither stands, nothing changes
  pub none_exchanged : (es : List (K × V)) (a b q : K) → at R es a ≡ None → at R es b ≡ None → at R es q ≡ exchanged R (at R es) a b q
  none_exchanged es a b q no_a no_b = elim (asks o a q) as (λ t. asks o a q ≡ t → at R es q ≡ cond t (at R es b) (cond (asks o b q) (at R es a) (at R es q))) [
    | true ↦ λ of_a. sym (at_alike a q of_a es) ∙ no_a ∙ sym no_b
    | false ↦ λ of_a. elim (asks o b q) as (λ t. asks o b q ≡ t → at R es q ≡ cond t (at R es a) (at R es q)) [
      | true ↦ λ of_b. sym (at_alike b q of_b es) ∙ no_b ∙ sym no_a
      | false ↦ λ of_b. refl
    ] refl
  ] refl

  at_with : (es before : List (K × V)) (k : K) (x : Option V) (q : K) → at R es q ≡ cond (asks o k q) None (at R before q) → at R (with_value R es k x) q ≡ cond (asks o k q) x (at R before q)
  at_with es before k None q is = is
  at_with es before k (Some v) q is = at_inserted k v q es ∙ ap (λ z. cond (asks o k q) (Some v) z) is ∙ both_once (asks o k q) (Some v) None (at R before q)

  pub order_with : (es : List (K × V)) (k : K) (x : Option V) → InOrder es → InOrder (with_value R es k x)
  order_with es k None s = s
  order_with es k (Some v) s = order_inserted k v es s

  last : (es : List (K × V)) (a b q : K) (f : K → Option V) (y : Option V) → ((p r : K) → asks o p r ≡ true → f p ≡ f r)
      → y ≡ cond (asks o a b) None (f b) → at R es q ≡ cond (asks o b q) (f a) (cond (asks o a q) None (f q))
      → at R (with_value R es a y) q ≡ cond (asks o a q) (f b) (cond (asks o b q) (f a) (f q))
  last es a b q f y alike y_is before = elim (asks o a b) as (λ t. asks o a b ≡ t → at R (with_value R es a y) q ≡ cond (asks o a q) (f b) (cond (asks o b q) (f a) (f q))) [
    | true ↦ λ same.
        let none : y ≡ None = y_is ∙ ap (λ t. cond t None (f b)) same in
        let one : asks o a q ≡ asks o b q = (eq_by_cmp_equiv o).congr a b q same in
        ap (λ z. at R (with_value R es a z) q) none ∙ before ∙ ap (λ t. cond (asks o b q) (f a) (cond t None (f q))) one
        ∙ both_once (asks o b q) (f a) None (f q) ∙ ap (λ z. cond (asks o b q) z (f q)) (alike a b same)
        ∙ sym (both_once (asks o b q) (f b) (f a) (f q)) ∙ ap (λ t. cond t (f b) (cond (asks o b q) (f a) (f q))) (sym one)
    | false ↦ λ other.
        let is : y ≡ f b = y_is ∙ ap (λ t. cond t None (f b)) other in
        ap (λ z. at R (with_value R es a z) q) is ∙ apart (f b) other
  ] refl
    where
      two : (t u : Bool) (z : Option V) → (t ≡ true → u ≡ false) → cond t None (cond u (f a) (f q)) ≡ cond u (f a) (cond t None (f q))
      two true u z differ = ap (λ w. cond w (f a) None) (sym (differ refl))
      two false u z differ = refl

      differs : asks o a b ≡ false → asks o a q ≡ true → asks o b q ≡ false
      differs other same = (eq_by_cmp_equiv o).symm b q ∙ sym ((eq_by_cmp_equiv o).congr a q b same) ∙ other

      none_there : asks o a b ≡ false → at R es q ≡ cond (asks o a q) None (cond (asks o b q) (f a) (f q))
      none_there other = before ∙ sym (two (asks o a q) (asks o b q) None (differs other))

      apart : (w : Option V) → asks o a b ≡ false → at R (with_value R es a w) q ≡ cond (asks o a q) w (cond (asks o b q) (f a) (f q))
      apart None other = none_there other
      apart (Some v) other = at_inserted a v q es ∙ ap (λ z. cond (asks o a q) (Some v) z) (none_there other) ∙ both_once (asks o a q) (Some v) None (cond (asks o b q) (f a) (f q))

  pub order_first : {one : List (K × V)} (es : List (K × V)) (a : K) → InOrder es → one ≡ remove_entry (is_at (R a)) es → InOrder one
  order_first es a s is = subst InOrder (sym is) (order_removed (is_at (R a)) es s)

  -- what was taken out at two keys
  pub record TakenOut (es one two : List (K × V)) (a b : K) (x y : Option V) : Type 0 where
    pub order : InOrder es
    pub x_is : x ≡ at R es a
    pub one_is : one ≡ remove_entry (is_at (R a)) es
    pub y_is : y ≡ at R one b
    pub two_is : two ≡ remove_entry (is_at (R b)) one

  module _ {es one two : List (K × V)} {a b : K} {x y : Option V} (t : TakenOut es one two a b x y) where
    order_one : InOrder one
    order_one = subst InOrder (sym t.one_is) (order_removed (is_at (R a)) es t.order)

    pub order_two : InOrder two
    order_two = subst InOrder (sym t.two_is) (order_removed (is_at (R b)) one order_one)

    at_one : (q : K) → at R one q ≡ cond (asks o a q) None (at R es q)
    at_one q = ap (λ l. at R l q) t.one_is ∙ at_removed a q es t.order

    at_two : (q : K) → at R two q ≡ cond (asks o b q) None (at R one q)
    at_two q = ap (λ l. at R l q) t.two_is ∙ at_removed b q one order_one

    pub absent_b : at R two b ≡ None
    absent_b = at_two b ∙ ap (λ u. cond u None (at R one b)) ((eq_by_cmp_equiv o).refl b)

    at_three : (q : K) → at R (with_value R two b x) q ≡ cond (asks o b q) (at R es a) (cond (asks o a q) None (at R es q))
    at_three q = at_with two one b x q (at_two q) ∙ (λ i. cond (asks o b q) (t.x_is i) (at_one q i))

    pub absent_a : is_some y ≡ true → at R (with_value R two b x) a ≡ None
    absent_a some = at_three a ∙ (λ i. cond (differ i) (at R es a) (cond ((eq_by_cmp_equiv o).refl a i) None (at R es a)))
      where
        none_false : (z : Option V) → z ≡ None → is_some z ≡ true → ⊥
        none_false z none some = false≢true (sym (ap is_some none) ∙ some)

        differ : asks o b a ≡ false
        differ = elim (asks o a b) as (λ u. asks o a b ≡ u → asks o b a ≡ false) [
          | true ↦ λ same. absurd (none_false y (t.y_is ∙ at_one b ∙ ap (λ u. cond u None (at R es b)) same) some)
          | false ↦ λ other. (eq_by_cmp_equiv o).symm b a ∙ other
        ] refl

    pub at_four : (q : K) → at R (with_value R (with_value R two b x) a y) q ≡ exchanged R (at R es) a b q
    at_four q = last (with_value R two b x) a b q (at R es) y (λ p r same. at_alike p r same es) (t.y_is ∙ at_one b) (at_three q)

    pub order_three : {three : List (K × V)} → three ≡ with_value R two b x → InOrder three
    order_three is = subst InOrder (sym is) (order_with two b x order_two)

    pub order_four : {three four : List (K × V)} → three ≡ with_value R two b x → four ≡ with_value R three a y → InOrder four
    order_four {three = three} is next = subst InOrder (sym next) (order_with three a y (order_three is))

    pub exchanged_four : {three four whole : List (K × V)} → es ≡ whole → three ≡ with_value R two b x → four ≡ with_value R three a y → (q : K) → at R four q ≡ exchanged R (at R whole) a b q
    exchanged_four whole_is is next q = ap (λ l. at R l q) (next ∙ ap (λ l. with_value R l a y) is) ∙ at_four q ∙ ap (λ l. exchanged R (at R l) a b q) whole_is

  -- ---- the values at two places change places
  module _ (es : List (K × V)) (a b : K) (x y : ℕ) (s : InOrder es) (at_a : IsAt R es a x) (at_b : IsAt R es b y) (d : K × V) where
    abbrev first : K × V
    first = slice_index_or es x d

    abbrev second : K × V
    second = slice_index_or es y d

    abbrev middle : List (K × V)
    middle = slice_set es x (first.0, second.1)

    middle_is : middle ≡ insert_entry R es a second.1
    middle_is = written es a second.1 x s at_a d

    order_middle : InOrder middle
    order_middle = order_new es a second.1 s middle_is

    same_keys : keys_of middle ≡ keys_of es
    same_keys = keys_stay es x at_a.within first (get_or_default es x d first at_a.within) second.1

    key_there : (e : K × V) → (slice_index_or middle y e).0 ≡ (slice_index_or es y e).0
    key_there e =
        let within : y < length middle = omega (arith, at_b.within, length-set es x (first.0, second.1)) in
        sym (get_or-map (λ (e : K × V). e.0) middle y e e.0 within) ∙ ap (λ ks. slice_index_or ks y e.0) same_keys ∙ get_or-map (λ (e : K × V). e.0) es y e e.0 at_b.within

    there : IsAt R middle b y
    there = record {
      within = omega (arith, at_b.within, length-set es x (first.0, second.1));
      same = λ e. ap (λ k. R k b) (key_there e) ∙ at_b.same e;
    }

    swapped_is : with_swapped es x y d ≡ insert_entry R middle b first.1
    swapped_is = ap (λ k. slice_set middle y (k, first.1)) (sym (key_there d)) ∙ written middle b first.1 y order_middle there d

    order_swapped : InOrder (with_swapped es x y d)
    order_swapped = order_new middle b first.1 order_middle swapped_is

    alike : (q : K) → asks o a q ≡ true → asks o b q ≡ true → at R es a ≡ at R es b
    alike q of_a of_b = at_alike a b (same_key o a b ∙ (eq_by_cmp_equiv o).congr b q a of_b ∙ same_key o q a ∙ of_a) es

    crossed : (q : K) → cond (asks o b q) (at R es a) (cond (asks o a q) (at R es b) (at R es q)) ≡ exchanged R (at R es) a b q
    crossed q = elim (asks o a q) as (λ t. asks o a q ≡ t → cond (asks o b q) (at R es a) (cond t (at R es b) (at R es q)) ≡ cond t (at R es b) (cond (asks o b q) (at R es a) (at R es q))) [
      | true ↦ λ of_a. elim (asks o b q) as (λ u. asks o b q ≡ u → cond u (at R es a) (at R es b) ≡ at R es b) [
        | true ↦ λ of_b. alike q of_a of_b
        | false ↦ λ other. refl
      ] refl
      | false ↦ λ other. refl
    ] refl

    at_swapped : (q : K) → at R (with_swapped es x y d) q ≡ exchanged R (at R es) a b q
    at_swapped q =
        let of_a : at R es a ≡ Some first.1 = at_place es a x s at_a d in
        let of_b : at R es b ≡ Some second.1 = at_place es b y s at_b d in
        updated middle b first.1 swapped_is q ∙ ap (λ z. cond (asks o b q) (Some first.1) z) (updated es a second.1 middle_is q)
        ∙ sym (λ i. cond (asks o b q) (of_a i) (cond (asks o a q) (of_b i) (at R es q))) ∙ crossed q

  -- the same as the code goes
  pub order_there : {es given given_2 new : List (K × V)} {a b : K} {x y : ℕ} → given ≡ es → given_2 ≡ es → InOrder es → IsAt R given a x → IsAt R given_2 b y → ((d : K × V) → new ≡ with_swapped es x y d) → InOrder new
  order_there {es = es} {a = a} {b = b} {x = x} {y = y} is is_2 s f f_2 new_is =
      let at_a : IsAt R es a x = subst (λ l. IsAt R l a x) is f in
      let d : K × V = witness es x at_a.within in
      subst InOrder (sym (new_is d)) (order_swapped es a b x y s at_a (subst (λ l. IsAt R l b y) is_2 f_2) d)

  pub exchanged_there : {es given given_2 whole new : List (K × V)} {a b : K} {x y : ℕ} → given ≡ es → given_2 ≡ es → es ≡ whole → InOrder es → IsAt R given a x → IsAt R given_2 b y
      → ((d : K × V) → new ≡ with_swapped es x y d) → (q : K) → at R new q ≡ exchanged R (at R whole) a b q
  exchanged_there {es = es} {a = a} {b = b} {x = x} {y = y} is is_2 whole_is s f f_2 new_is q =
      let at_a : IsAt R es a x = subst (λ l. IsAt R l a x) is f in
      let d : K × V = witness es x at_a.within in
      ap (λ l. at R l q) (new_is d) ∙ at_swapped es a b x y s at_a (subst (λ l. IsAt R l b y) is_2 f_2) d q ∙ ap (λ l. exchanged R (at R l) a b q) whole_is

pub set_twice : {X : Type 0} (xs : List X) (i j : ℕ) (a b c d : X) → slice_set (slice_set (slice_set (slice_set xs i a) j b) i c) j d ≡ slice_set (slice_set xs i c) j d
set_twice xs i j a b c d = elim (cases_eq i j) as (λ t. slice_set (slice_set (slice_set (slice_set xs i a) j b) i c) j d ≡ slice_set (slice_set xs i c) j d) [
  | inl same ↦ subst (λ k. slice_set (slice_set (slice_set (slice_set xs i a) k b) i c) k d ≡ slice_set (slice_set xs i c) k d) same
      (ap (λ l. slice_set (slice_set l i c) i d) (set-set xs i a b) ∙ ap (λ l. slice_set l i d) (set-set xs i b c))
  | inr other ↦ ap (λ l. slice_set l j d) (set_comm (slice_set xs i a) j i b c (λ e. other (sym e)) ∙ ap (λ l. slice_set l j b) (set-set xs i a c)) ∙ set-set (slice_set xs i c) j b d
]

-- both are swapped, and then each key is written where it was
pub swapped_back : {K V : Type 0} (es swapped : List (K × V)) (x y : ℕ) (d : K × V) → x < length es → y < length es → SwappedAt es swapped x y
    → (f g : K × V) → f ≡ slice_index_or es x f → g ≡ slice_index_or es y g
    → (u v : K × V) → u ≡ slice_index_or swapped x u → v ≡ slice_index_or (slice_set swapped x (f.0, u.1)) y v
    → slice_set (slice_set swapped x (f.0, u.1)) y (g.0, v.1) ≡ with_swapped es x y d
swapped_back {K = K} {V = V} es swapped x y d x_in y_in s f g f_is g_is u v u_is v_is =
    (λ i. slice_set (slice_set (s.3 d i) x ((f_there i).0, (u_there i).1)) y ((g_there i).0, v_there i))
    ∙ set_twice es x y (slice_index_or es y d) (slice_index_or es x d) ((slice_index_or es x d).0, (slice_index_or es y d).1) ((slice_index_or es y d).0, (slice_index_or es x d).1)
  where
    f_there : f ≡ slice_index_or es x d
    f_there = get_or_read es x f x_in f_is d

    g_there : g ≡ slice_index_or es y d
    g_there = get_or_read es y g y_in g_is d

    u_there : u ≡ slice_index_or es y d
    u_there = get_or_read es y u y_in (u_is ∙ s.0 u) d

    within : x < length swapped
    within = omega (arith, x_in, ap length (s.3 d), length-set (slice_set es x (slice_index_or es y d)) y (slice_index_or es x d), length-set es x (slice_index_or es y d))

    v_there : v.1 ≡ (slice_index_or es x d).1
    v_there = elim (cases_eq x y) as (λ t. v.1 ≡ (slice_index_or es x d).1) [
      | inl same ↦ ap (λ (e : K × V). e.1) (v_is ∙ ap (λ k. slice_index_or (slice_set swapped x (f.0, u.1)) k v) (sym same) ∙ get_or-set_same swapped x (f.0, u.1) v within)
          ∙ ap (λ (e : K × V). e.1) (u_there ∙ ap (λ k. slice_index_or es k d) (sym same))
      | inr other ↦ ap (λ (e : K × V). e.1) (get_or_read es x v x_in (v_is ∙ get_or-set_other swapped x y (f.0, u.1) v (λ e. other (sym e)) ∙ s.1 v) d)
    ]
