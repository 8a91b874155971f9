-- The changes of rising keys, among which is each whose values differ.
use Rattle.std.proofs.Common.{◌≡◌, ◌∙◌, ℕ, Bool, true, false, cond, List, [], ◌∷◌, ◌++◌, ◌||◌, refl, sym, ap, nat_eq, subst, ◌⊎◌, inl, inr}
use Rattle.std.specs.Prelude.{Option, Some, None}
use Rattle.std.specs.List.{list_all}
use Rattle.std.specs.Cmp.Lexicographic.{pointwise, bytes_decides}
use Rattle.std.specs.FinMap.{get}
use Rattle.std.proofs.lemmas.Bool.{and_from, and_parts}
use Rattle.volume_spec.specs.Order.{rises, stands_before}
use Rattle.record_keeper.specs.declared.record.Change.{Change}
use Rattle.record_keeper.specs.declared.record.Change.TheVariants.{Put}
use Rattle.record_keeper.specs.Records.{Records, changed, key_of}
use Rattle.record_keeper.proofs.KeptRows.{alike}
use Rattle.volume_changes.specs.records.Differences.{differences, is_among, names, turned}
use Rattle.volume_changes.specs.records.Laws.{Covers, IsExact}
use Rattle.volume_changes.proofs.OfRecords.LookUps.{are_one, after, got_changed, itself, one_of}

-- the two tests of keys are one
pub same_test : (q k : List ℕ) → pointwise nat_eq q k ≡ are_one q k
same_test q k = elim (are_one q k) as (λ b. are_one q k ≡ b → pointwise nat_eq q k ≡ b) [
  | true ↦ λ e. (bytes_decides q k).1 (one_of q k e)
  | false ↦ λ e. apart (pointwise nat_eq q k) (λ h. let is = (bytes_decides q k).0 h in sym (itself k) ∙ ap (λ x. are_one x k) (sym is) ∙ e)
] refl
  where
    apart : (b : Bool) → (b ≡ true → true ≡ false) → b ≡ false
    apart true h = h refl
    apart false h = refl

-- what a change of a key leaves there and elsewhere, in front of others
module _ (q key : List ℕ) where
  -- at other keys nothing changes
  past : are_one q key ≡ false → (old new x : Option (List ℕ)) (cs : List Change) → after (turned key old new ++ cs) q x ≡ after cs q x
  past e None None x cs = refl
  past e None (Some n) x cs = ap (λ b. after cs q (cond b (Some n) x)) e
  past e (Some o) None x cs = ap (λ b. after cs q (cond b None x)) e
  past e (Some o) (Some n) x cs = elim (pointwise nat_eq o n) as (λ t. after (cond t [] (Put key n ∷ []) ++ cs) q x ≡ after cs q x) [
    | true ↦ refl
    | false ↦ ap (λ b. after cs q (cond b (Some n) x)) e
  ]

  unnamed : are_one q key ≡ false → (old new : Option (List ℕ)) (cs : List Change) → names q (turned key old new ++ cs) ≡ names q cs
  unnamed e None None cs = refl
  unnamed e None (Some n) cs = ap (λ b. b || names q cs) (same_test q key ∙ e)
  unnamed e (Some o) None cs = ap (λ b. b || names q cs) (same_test q key ∙ e)
  unnamed e (Some o) (Some n) cs = elim (pointwise nat_eq o n) as (λ t. names q (cond t [] (Put key n ∷ []) ++ cs) ≡ names q cs) [
    | true ↦ refl
    | false ↦ ap (λ b. b || names q cs) (same_test q key ∙ e)
  ]

  -- at the key itself its new value stands then
  there : are_one q key ≡ true → (old new x : Option (List ℕ)) (cs : List Change) → (x ≡ old) ⊎ (x ≡ new) → after (turned key old new ++ cs) q x ≡ after cs q new
  there e None None x cs (inl h) = ap (after cs q) h
  there e None None x cs (inr h) = ap (after cs q) h
  there e None (Some n) x cs h = ap (λ b. after cs q (cond b (Some n) x)) e
  there e (Some o) None x cs h = ap (λ b. after cs q (cond b None x)) e
  there e (Some o) (Some n) x cs h = elim (pointwise nat_eq o n) as (λ t. pointwise nat_eq o n ≡ t → after (cond t [] (Put key n ∷ []) ++ cs) q x ≡ after cs q (Some n)) [
    | true ↦ λ same. ap (after cs q) (elim h [ inl k ↦ k ∙ ap Some ((bytes_decides o n).0 same) | inr k ↦ k ])
    | false ↦ λ same. ap (λ b. after cs q (cond b (Some n) x)) e
  ] refl

  -- where it is named its values differ; where it is not they are one
  named_here : are_one q key ≡ true → (old new : Option (List ℕ)) (cs : List Change) → names q (turned key old new ++ cs) ≡ true → (names q cs ≡ true → old ≡ new → ⊥) → old ≡ new → ⊥
  named_here e None None cs h rest same = rest h same
  named_here e None (Some n) cs h rest same = absurd (cc same)
  named_here e (Some o) None cs h rest same = absurd (cc same)
  named_here e (Some o) (Some n) cs h rest same = elim (pointwise nat_eq o n) as (λ t. pointwise nat_eq o n ≡ t → names q (cond t [] (Put key n ∷ []) ++ cs) ≡ true → ⊥) [
    | true ↦ λ t k. rest k same
    | false ↦ λ t k. absurd (let is : o ≡ n = cc same in let b : true ≡ false = sym ((bytes_decides o n).1 is) ∙ t in cc b)
  ] refl h

  left_here : are_one q key ≡ true → (old new : Option (List ℕ)) (cs : List Change) → names q (turned key old new ++ cs) ≡ false → old ≡ new
  left_here e None None cs h = refl
  left_here e None (Some n) cs h = absurd (let b : true ≡ false = sym (ap (λ t. t || names q cs) (same_test q key ∙ e)) ∙ h in cc b)
  left_here e (Some o) None cs h = absurd (let b : true ≡ false = sym (ap (λ t. t || names q cs) (same_test q key ∙ e)) ∙ h in cc b)
  left_here e (Some o) (Some n) cs h = elim (pointwise nat_eq o n) as (λ t. pointwise nat_eq o n ≡ t → names q (cond t [] (Put key n ∷ []) ++ cs) ≡ false → Some o ≡ Some n) [
    | true ↦ λ t k. ap Some ((bytes_decides o n).0 t)
    | false ↦ λ t k. absurd (let b : true ≡ false = sym (ap (λ t. t || names q cs) (same_test q key ∙ e)) ∙ k in cc b)
  ] refl h

module _ (before next : Records) where
  -- whatever stands at a key, of the two values, the new one stands there after the changes, if the key is among these
  settles : (keys : List (List ℕ)) (q : List ℕ) (x : Option (List ℕ)) → (x ≡ get before q) ⊎ (x ≡ get next q) → (is_among q keys ≡ false → x ≡ get next q) → after (differences keys before next) q x ≡ get next q
  settles [] q x h covers = covers refl
  settles (k ∷ ks) q x h covers = elim (are_one q k) as (λ b. are_one q k ≡ b → after (turned k (get before k) (get next k) ++ differences ks before next) q x ≡ get next q) [
    | true ↦ λ e.
        let is : q ≡ k = one_of q k e in
        there q k e (get before k) (get next k) x (differences ks before next) (subst (λ j. (x ≡ get before j) ⊎ (x ≡ get next j)) is h)
        ∙ ap (λ j. after (differences ks before next) q (get next j)) (sym is)
        ∙ settles ks q (get next q) (inr refl) (λ n. refl)
    | false ↦ λ e.
        past q k e (get before k) (get next k) x (differences ks before next)
        ∙ settles ks q x h (λ n. covers (ap (λ b. b || is_among q ks) (same_test q k ∙ e) ∙ n))
  ] refl

  pub makes : (keys : List (List ℕ)) → Covers keys before next → changed (differences keys before next) before ≡ next
  makes keys covers = alike _ _ (λ q. got_changed (differences keys before next) before q ∙ settles keys q (get before q) (inl refl) (covers q))

  differs : (keys : List (List ℕ)) (q : List ℕ) → names q (differences keys before next) ≡ true → get before q ≡ get next q → ⊥
  differs [] q h same = absurd (cc)
  differs (k ∷ ks) q h same = elim (are_one q k) as (λ b. are_one q k ≡ b → ⊥) [
    | true ↦ λ e.
        let is : q ≡ k = one_of q k e in
        named_here q k e (get before k) (get next k) (differences ks before next) h (λ n s. differs ks q n same) (subst (λ j. get before j ≡ get next j) is same)
    | false ↦ λ e. differs ks q (sym (unnamed q k e (get before k) (get next k) (differences ks before next)) ∙ h) same
  ] refl

  others : (keys : List (List ℕ)) (q : List ℕ) → (is_among q keys ≡ false → get before q ≡ get next q) → names q (differences keys before next) ≡ false → get before q ≡ get next q
  others [] q covers h = covers refl
  others (k ∷ ks) q covers h = elim (are_one q k) as (λ b. are_one q k ≡ b → get before q ≡ get next q) [
    | true ↦ λ e. subst (λ j. get before j ≡ get next j) (sym (one_of q k e)) (left_here q k e (get before k) (get next k) (differences ks before next) h)
    | false ↦ λ e. others ks q (λ n. covers (ap (λ b. b || is_among q ks) (same_test q k ∙ e) ∙ n)) (sym (unnamed q k e (get before k) (get next k) (differences ks before next)) ∙ h)
  ] refl

  -- what all keys pass, the keys of all changes pass
  one_passes : (p : List ℕ → Bool) (k : List ℕ) (old new : Option (List ℕ)) (cs : List Change) → p k ≡ true → list_all (λ c. p (key_of c)) cs ≡ true → list_all (λ c. p (key_of c)) (turned k old new ++ cs) ≡ true
  one_passes p k None None cs e h = h
  one_passes p k None (Some n) cs e h = and_from (p k) (list_all (λ c. p (key_of c)) cs) e h
  one_passes p k (Some o) None cs e h = and_from (p k) (list_all (λ c. p (key_of c)) cs) e h
  one_passes p k (Some o) (Some n) cs e h = elim (pointwise nat_eq o n) as (λ t. list_all (λ c. p (key_of c)) (cond t [] (Put k n ∷ []) ++ cs) ≡ true) [
    | true ↦ h
    | false ↦ and_from (p k) (list_all (λ c. p (key_of c)) cs) e h
  ]

  pass : (p : List ℕ → Bool) (keys : List (List ℕ)) → list_all p keys ≡ true → list_all (λ c. p (key_of c)) (differences keys before next) ≡ true
  pass p [] h = refl
  pass p (k ∷ ks) h = let e = and_parts (p k) (list_all p ks) h in one_passes p k (get before k) (get next k) (differences ks before next) e.0 (pass p ks e.1)

  one_rises : (k : List ℕ) (old new : Option (List ℕ)) (cs : List Change) → list_all (λ c. stands_before k (key_of c)) cs ≡ true → rises key_of cs ≡ true → rises key_of (turned k old new ++ cs) ≡ true
  one_rises k None None cs u h = h
  one_rises k None (Some n) cs u h = and_from (list_all (λ c. stands_before k (key_of c)) cs) (rises key_of cs) u h
  one_rises k (Some o) None cs u h = and_from (list_all (λ c. stands_before k (key_of c)) cs) (rises key_of cs) u h
  one_rises k (Some o) (Some n) cs u h = elim (pointwise nat_eq o n) as (λ t. rises key_of (cond t [] (Put k n ∷ []) ++ cs) ≡ true) [
    | true ↦ h
    | false ↦ and_from (list_all (λ c. stands_before k (key_of c)) cs) (rises key_of cs) u h
  ]

  keys_rise : (keys : List (List ℕ)) → rises (λ (k : List ℕ). k) keys ≡ true → rises key_of (differences keys before next) ≡ true
  keys_rise [] h = refl
  keys_rise (k ∷ ks) h =
      let e = and_parts (list_all (λ (y : List ℕ). stands_before k y) ks) (rises (λ (j : List ℕ). j) ks) h in
      one_rises k (get before k) (get next k) (differences ks before next) (pass (stands_before k) ks e.0) (keys_rise ks e.1)

  pub exact : (keys : List (List ℕ)) → rises (λ (k : List ℕ). k) keys ≡ true → Covers keys before next → IsExact (differences keys before next) before next
  exact keys rising covers = record { named = differs keys; others = λ q. others keys q (covers q); rising = keys_rise keys rising }
