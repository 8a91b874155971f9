-- Things of which one link changed.
use Rattle.std.proofs.Common.{◌≡◌, ◌≢◌, ◌∙◌, ◌⊎◌, refl, sym, ap, subst, ℕ, ◌<◌, ◌≤◌, zero, suc, Bool, List, [], ◌∷◌, ◌++◌, length, length-append, Some, inl, inr, arith}
use Rattle.std.specs.Prelude.{slice_get, slice_set, nat_eq, if◌then◌else◌}
use Rattle.std.proofs.Math.ListN.{length-set}
use Rattle.std.proofs.lemmas.Bool.Decides.{eqb_tells}
use Rattle.afp_serial.specs.Shown.{Shown}
use Rattle.once_across_breaks_code.specs.run.Things as things
use Rattle.once_across_breaks_code.specs.run.Things.{Things}
use Rattle.once_across_breaks_live.specs.declared.client_end.ClientEnd.{ClientEnd}
use Rattle.once_across_breaks_live.specs.declared.lane.Lane.{Lane}
use Rattle.once_across_breaks_live.specs.lemma.Lanes.{IsLane}
use Rattle.once_across_breaks_live.specs.lemma.Near.{came_to}
use Rattle.once_across_breaks_live.specs.lemma.Running.{Stands}

-- ---- links by their numbers

abbrev pub put : ℕ → things.Lane → (ℕ → things.Lane) → ℕ → things.Lane
put i y f j = if nat_eq j i then y else f j

pub put-here : (i : ℕ) (y : things.Lane) (f : ℕ → things.Lane) (j : ℕ) → j ≡ i → put i y f j ≡ y
put-here i y f j e = elim (eqb_tells j i) [
  | inl t ↦ ap (λ (b : Bool). if b then y else f j) t.0
  | inr t ↦ absurd (t.1 e)
]

pub put-off : (i : ℕ) (y : things.Lane) (f : ℕ → things.Lane) (j : ℕ) → j ≢ i → put i y f j ≡ f j
put-off i y f j e = elim (eqb_tells j i) [
  | inl t ↦ absurd (e t.1)
  | inr t ↦ ap (λ (b : Bool). if b then y else f j) t.0
]

-- ---- elements of a list

get-set : (xs : List Lane) (i k : ℕ) (d c : Lane) → slice_get (slice_set xs i d) k ≡ Some c → ((k ≡ i) × (c ≡ d)) ⊎ ((k ≢ i) × (slice_get xs k ≡ Some c))
get-set [] i k d c e = inr ((λ same. absurd (cc e)), e)
get-set (x ∷ xs) zero zero d c e = inl (refl, cc e)
get-set (x ∷ xs) zero (suc k) d c e = inr ((λ same. cc same), e)
get-set (x ∷ xs) (suc i) zero d c e = inr ((λ same. cc same), e)
get-set (x ∷ xs) (suc i) (suc k) d c e = elim (get-set xs i k d c e) [
  | inl p ↦ inl (ap suc p.0, p.1)
  | inr p ↦ inr ((λ same. p.0 (omega (arith, same))), p.1)
]

get-more : (xs : List Lane) (k : ℕ) (d c : Lane) → slice_get (xs ++ d ∷ []) k ≡ Some c → ((k ≡ length xs) × (c ≡ d)) ⊎ ((k < length xs) × (slice_get xs k ≡ Some c))
get-more [] zero d c e = inl (refl, cc e)
get-more [] (suc k) d c e = absurd (cc e)
get-more (x ∷ xs) zero d c e = inr (omega arith, e)
get-more (x ∷ xs) (suc k) d c e = elim (get-more xs k d c e) [
  | inl p ↦ inl (ap suc p.0, p.1)
  | inr p ↦ inr (omega (arith, p.0), p.1)
]

-- ---- what is held

-- of things of which one link changed
pub record ChangesTo (i : ℕ) (y : things.Lane) (t s : Things) : Type 0 where
  pub top : s.top ≡ t.top
  pub here : s.lanes i ≡ y
  pub others : (j : ℕ) → j ≢ i → s.lanes j ≡ t.lanes j

pub stands-set : (end new_end : ClientEnd) (lanes : List Lane) (a b : Shown) (t s : Things) (i : ℕ) (l : Lane) (y : things.Lane) → Stands end lanes a t → s.client ≡ new_end.client → came_to new_end.client ≤ new_end.came
    → s.results ≡ new_end.results.items → s.shown ≡ b → ChangesTo i y t s → IsLane l y → Stands new_end (slice_set lanes i l) b s
stands-set end new_end lanes a b t s i l y st client most results shown ch is = record {
  client = client;
  most = most;
  results = results;
  shown_is = shown;
  size = length-set lanes i l ∙ st.size ∙ ap suc (sym ch.top);
  each = λ k c e. elim (get-set lanes i k l c e) [
    | inl h ↦ subst (λ (x : Lane). IsLane x (s.lanes k)) (sym h.1) (subst (λ (v : things.Lane). IsLane l v) (sym (ap (λ (j : ℕ). s.lanes j) h.0 ∙ ch.here)) is)
    | inr h ↦ subst (λ (v : things.Lane). IsLane c v) (sym (ch.others k h.0)) (st.each k c h.1)
  ];
}

pub stands-more : (end new_end : ClientEnd) (lanes : List Lane) (a b : Shown) (t s : Things) (l : Lane) (y : things.Lane) → Stands end lanes a t → s.client ≡ new_end.client → came_to new_end.client ≤ new_end.came
    → s.results ≡ new_end.results.items → s.shown ≡ b → s.top ≡ suc t.top → s.lanes (suc t.top) ≡ y → ((j : ℕ) → j ≢ suc t.top → s.lanes j ≡ t.lanes j) → IsLane l y → Stands new_end (lanes ++ l ∷ []) b s
stands-more end new_end lanes a b t s l y st client most results shown top here others is = record {
  client = client;
  most = most;
  results = results;
  shown_is = shown;
  size = length-append lanes (l ∷ []) ∙ omega (arith, st.size, top);
  each = λ k c e. elim (get-more lanes k l c e) [
    | inl h ↦ subst (λ (x : Lane). IsLane x (s.lanes k)) (sym h.1) (subst (λ (v : things.Lane). IsLane l v) (sym (ap (λ (j : ℕ). s.lanes j) (h.0 ∙ st.size) ∙ here)) is)
    | inr h ↦ subst (λ (v : things.Lane). IsLane c v) (sym (others k (λ same. absurd (omega (arith, same, h.0, st.size))))) (st.each k c h.1)
  ];
}

-- the same, where the teller alone went on
pub stands-shown : (end : ClientEnd) (lanes : List Lane) (a b : Shown) (t : Things) → Stands end lanes a t → Stands end lanes b (record t { shown = b })
stands-shown end lanes a b t st = record { client = st.client; most = st.most; results = st.results; shown_is = refl; size = st.size; each = st.each }
