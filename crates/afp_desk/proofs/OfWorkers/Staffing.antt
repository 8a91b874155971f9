-- One more pass is cut off.
use Rattle.std.proofs.Common.{◌≡◌, ℕ, zero, suc, ◌+◌, ◌-◌, ◌/◌, ◌<◌, ◌≤◌, length, get_or, ⊎_elim, List, [], ◌∷◌, ◌++◌, refl, sym, ap, ◌∙◌, subst, arith, add-one}
use mathlib.Core.Option.{some, some-ne-none}
use lib.ListN.{get_elem?}
use Rattle.atomic_table.proofs.Lists.{at_snoc}
use Rattle.afp_desk.specs.declared.desk.view.View.{View}
use Rattle.afp_desk.specs.desk.Rule.{share_of, shown_of}
use Rattle.afp_desk.specs.desk.Passes.{IsSplit}
use Rattle.afp_desk.proofs.OfDesk.Totals.{total-snoc}
use Rattle.afp_desk.specs.workers.Staffs.{Staffed, fresh, least}

pub staffs-none : (v : View) → Staffed v v []
staffs-none v = record { shares = omega arith; start = refl; same = refl; each = λ i u e. absurd (some-ne-none u (sym e)) }

pub staffs-one : (v w w' u : View) (us : List View) → Staffed v w us → IsSplit w w' u → Staffed v w' (us ++ u ∷ [])
staffs-one v w w' u us s m = record {
  shares = let a = s.shares in let b = m.left in let c = m.right in let t = total-snoc share_of us u in omega arith;
  start = m.starts.0 ∙ s.start;
  same = m.same ∙ s.same;
  each = λ i x e. ⊎_elim (λ (t : get_elem? us i ≡ some x). s.each i x t) (λ (t : u ≡ x). subst (λ (y : View). shown_of y ≡ fresh (shown_of v)) t (m.as_much ∙ ap fresh s.same)) (at_snoc us u x i e);
}

-- what holds at each place holds there with one more
pub each-snoc : {A : Type 0} (P : A → Type 0) (xs : List A) (x : A) → ((i : ℕ) (d : A) → i < length xs → P (get_or xs i d)) → P x → (i : ℕ) (d : A) → i < length (xs ++ x ∷ []) → P (get_or (xs ++ x ∷ []) i d)
each-snoc P [] x h p zero d l = p
each-snoc P [] x h p (suc i) d l = absurd (omega arith)
each-snoc P (y ∷ ys) x h p zero d l = h 0 d (omega arith)
each-snoc P (y ∷ ys) x h p (suc i) d l = each-snoc P ys x (λ j e k. h (suc j) e (omega arith)) p i d (omega arith)

-- a first pass that was cut 16 times at most can be cut again
least-falls : (n k : ℕ) → least (k + n) ≤ least n
least-falls n zero = let e : 0 + n ≡ n = omega arith in let s : least (0 + n) ≡ least n = ap least e in omega arith
least-falls n (suc k) = let rest = least-falls n k in let e : suc k + n ≡ suc (k + n) = omega arith in let half : least (suc k + n) ≡ least (k + n) / 2 = ap least e in omega arith

pub least-two : (n : ℕ) → n ≤ 16 → 2 ≤ least n
least-two n l = let down = least-falls n (16 - n) in let same : (16 - n) + n ≡ 16 = omega arith in let at : least ((16 - n) + n) ≡ least 16 = ap least same in let last : least 16 ≡ 65536 = refl in omega arith

pub least-halves : (n share share' : ℕ) → least n ≤ share → share' ≡ share - share / 2 → least (n + 1) ≤ share'
least-halves n share share' l e = let next : least (n + 1) ≡ least n / 2 = ap least (add-one n) in omega arith
