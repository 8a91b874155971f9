-- A set of keys with one key more.
use Rattle.std.proofs.Common.{◌≡◌, ℕ, Bool, List, [], ◌∷◌, refl, sym, ap, ◌∙◌, ◌<◌, ◌≤◌, ⊎_elim, arith}
use Rattle.std.specs.Prelude.{◌||◌, ◌&&◌, ◌==◌, bytes_eq, Vec}
use Rattle.std.specs.List.{list_any}
use Rattle.std.specs.BTreeSet.{BTreeSet, insert_key}
use Rattle.std.specs.declared.alloc.Global.{Global}
use Rattle.std.specs.Cmp.Lexicographic.{slice_cmp}
use Rattle.std.specs.Ordering.{nat_cmp, ordering_then, is_eq, match_ordering}
use Rattle.std.specs.FinMap.{slice_cmp-IsAntisymmetric, nat_cmp-IsAntisymmetric}
use Rattle.volume_keeper_records.specs.lemma.Judged.{has_seen}
use Rattle.std.specs.Cmp.{nat_cmp_is}
use Rattle.std.proofs.lemmas.Map.Text.{is_eq-slice_cmp}
use Rattle.std.proofs.lemmas.Bool.{cases_eq, cases_lt, eq-eqb, ne_eqb}
use Rattle.std.specs.declared.cmp.Ordering.{Ordering}
use Rattle.std.specs.declared.cmp.Ordering.TheVariants.{Less, Equal, Greater}
use Rattle.afp_base.proofs.Facts.{or_swap, or_twice}

pub any_insert : {K : Type 0} (cmp : K → K → Ordering) (test : K → Bool) (k : K) → ((x : K) → cmp k x ≡ Equal → test x ≡ test k) → (ks : List K)
    → list_any test (insert_key cmp ks k) ≡ (test k || list_any test ks)
any_insert cmp test k same [] = refl
any_insert cmp test k same (x ∷ xs) = elim (cmp k x) as (λ o. cmp k x ≡ o → list_any test (match_ordering o (k ∷ x ∷ xs) (x ∷ xs) (x ∷ insert_key cmp xs k)) ≡ (test k || (test x || list_any test xs))) [
  | Less ↦ λ e. refl
  | Equal ↦ λ e. or_twice (test x) (test k) (list_any test xs) (same x e)
  | Greater ↦ λ e. ap (λ b. test x || b) (any_insert cmp test k same xs) ∙ or_swap (test x) (test k) (list_any test xs)
] refl

abbrev pub Key : Type 0
Key = ℕ × Vec ℕ Global

abbrev pub by_key : Key → Key → Ordering
by_key x y = ordering_then (nat_cmp x.0 y.0) (slice_cmp nat_cmp x.1.items y.1.items)

then_equal : (a b : Ordering) → ordering_then a b ≡ Equal → (a ≡ Equal) × (b ≡ Equal)
then_equal Less b e = absurd (cc)
then_equal Equal b e = (refl, e)
then_equal Greater b e = absurd (cc)

test_is : (p q : ℕ) (xs ys : List ℕ) → is_eq (ordering_then (nat_cmp p q) (slice_cmp nat_cmp xs ys)) ≡ ((p == q) && bytes_eq xs ys)
test_is p q xs ys = ⊎_elim
    (λ (h : p < q). ap (λ o. is_eq (ordering_then o (slice_cmp nat_cmp xs ys))) (sym (nat_cmp_is p q Less h)) ∙ sym (ap (λ b. b && bytes_eq xs ys) (ne_eqb p q (λ e. absurd (omega arith)))))
    (λ (h : q ≤ p). ⊎_elim
    (λ (e : p ≡ q). ap (λ o. is_eq (ordering_then o (slice_cmp nat_cmp xs ys))) (sym (nat_cmp_is p q Equal e)) ∙ is_eq-slice_cmp xs ys ∙ sym (ap (λ b. b && bytes_eq xs ys) (eq-eqb p q e)))
    (λ (n : p ≡ q → ⊥). ap (λ o. is_eq (ordering_then o (slice_cmp nat_cmp xs ys))) (sym (nat_cmp_is p q Greater (⊎_elim (λ (l : q < p). l) (λ (g : p ≤ q). absurd (n (omega arith))) (cases_lt q p)))) ∙ sym (ap (λ b. b && bytes_eq xs ys) (ne_eqb p q n)))
    (cases_eq p q)) (cases_lt p q)

pub seen_more : (old new : BTreeSet Key) (k : Key) → new.keys ≡ insert_key by_key old.keys k → (p : ℕ) (key : List ℕ) → has_seen new p key ≡ (((p == k.0) && bytes_eq key k.1.items) || has_seen old p key)
seen_more old new k e p key =
    let test : Key → Bool = λ x. is_eq (ordering_then (nat_cmp p x.0) (slice_cmp nat_cmp key x.1.items)) in
    ap (list_any test) e
    ∙ any_insert by_key test k (λ x h.
    let both = then_equal _ _ h in
    let a : k.0 ≡ x.0 = nat_cmp-IsAntisymmetric k.0 x.0 both.0 in
    let b : k.1.items ≡ x.1.items = slice_cmp-IsAntisymmetric nat_cmp-IsAntisymmetric k.1.items x.1.items both.1 in
    ap (λ q. is_eq (ordering_then (nat_cmp p q) (slice_cmp nat_cmp key x.1.items))) (sym a) ∙ ap (λ q. is_eq (ordering_then (nat_cmp p k.0) (slice_cmp nat_cmp key q))) (sym b)) old.keys
    ∙ ap (λ b. b || list_any test old.keys) (test_is p k.0 key k.1.items)
