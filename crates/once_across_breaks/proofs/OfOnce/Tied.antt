-- What the proof sees of a run, and how an ask changes it.
use Rattle.std.proofs.Common.{◌≡◌, ◌≢◌, ◌∙◌, ◌⊎◌, inl, inr, refl, sym, ap, subst, ℕ, ◌<◌, ◌≤◌, Bool, true, false, cond, List, [], ◌∷◌, ◌++◌, length, Option, Some, None, arith, append-nil, append_assoc}
use Rattle.std.specs.Prelude.{nat_eq}
use Rattle.std.proofs.lemmas.Bool.{cond_both, eqb-true, eq-eqb, ne_eqb, cond-true, cond-false}
use Rattle.once_across_breaks.specs.once.Messages.{Answer, Done, Kept, store, Command, request_of}
use Rattle.once_across_breaks.specs.once.Server.{set, Entry, View, is_some_of, opened, detached, ended, swept, adopted, storing, Server, Machine}
use Rattle.once_across_breaks.specs.once.Run.{Link, Wait, Run}
use Rattle.once_across_breaks.specs.once.Once.{picked, effective}
use Rattle.once_across_breaks.proofs.OfOnce.Scene.{Own, Fresh, Mine, Nobody, Other, Scene, Work, Held}
use Rattle.once_across_breaks.proofs.OfOnce.Ends.{Fades, work-gone, fades}

-- ---- histories

abbrev pub world_after : {W : Type 0} → Machine W → W → List Entry → W
world_after s w [] = w
world_after s w (e ∷ es) = world_after s (s.after w e) es

pub after-push : {W : Type 0} {Sound : W → Type 0} (s : Server W Sound) (w : W) (h : List Entry) (e : Entry) → world_after s.machine w (h ++ e ∷ []) ≡ s.after (world_after s.machine w h) e
after-push s w [] e = refl
after-push s w (x ∷ xs) e = after-push s (s.after w x) xs e

abbrev pub picked_of : {W : Type 0} → Machine W → ℕ → W → Entry → List Done
picked_of s n w e = picked n (s.view w n) e.link e.ask e.outcome (s.told w e)

pub effective-push : {W : Type 0} {Sound : W → Type 0} (s : Server W Sound) (n : ℕ) (w : W) (h : List Entry) (e : Entry) → effective s.machine n w (h ++ e ∷ []) ≡ effective s.machine n w h ++ picked_of s.machine n (world_after s.machine w h) e
effective-push s n w [] e = append-nil (picked_of s.machine n w e)
effective-push s n w (x ∷ xs) e = ap (λ ys. picked_of s.machine n w x ++ ys) (effective-push s n (s.after w x) xs e) ∙ sym (append_assoc (picked_of s.machine n w x) (effective s.machine n (s.after w x) xs) (picked_of s.machine n (world_after s.machine (s.after w x) xs) e))

-- ---- whose a link is

abbrev pub who : ℕ → Option ℕ → Own
who n None = Nobody
who n (Some k) = cond (nat_eq k n) Mine Other

abbrev pub own_of : ℕ → (ℕ → Option ℕ) → Option ℕ → Own
own_of n h None = Fresh
own_of n h (Some l) = who n (h l)

pub who-mine : (n : ℕ) (o : Option ℕ) → who n o ≡ Mine → o ≡ Some n
who-mine n None e = absurd (cc)
who-mine n (Some k) e = cond_both (nat_eq k n) Mine Other (λ x. x ≡ Mine → Some k ≡ Some n) (λ same m. ap (λ j. Some j) (eqb-true k n same)) (λ other m. absurd (cc)) e

pub who-is : (n : ℕ) (o : Option ℕ) → o ≡ Some n → who n o ≡ Mine
who-is n o e = ap (who n) e ∙ cond-true (nat_eq n n) Mine Other (eq-eqb n n refl)

pub own-mine : (n : ℕ) (h : ℕ → Option ℕ) (number : Option ℕ) → own_of n h number ≡ Mine → (l : ℕ) × (number ≡ Some l) × (h l ≡ Some n)
own-mine n h None e = absurd (cc)
own-mine n h (Some l) e = (l, refl, who-mine n (h l) e)

-- ---- the numbers of the links, and who has them

pub record Tied (n : ℕ) (v : View) (links : ℕ → Link) (top : ℕ) : Type 0 where
  pub apart : (i j l : ℕ) → (links i).number ≡ Some l → (links j).number ≡ Some l → i ≡ j
  pub drawn : (i l : ℕ) → (links i).number ≡ Some l → l < v.next
  pub here : (l : ℕ) → v.holder l ≡ Some n → (i : ℕ) × ((links i).number ≡ Some l)
  pub there : n < v.next
  pub later : (j : ℕ) → top < j → (links j).number ≡ None

-- links with the same numbers
pub tied-same : (n : ℕ) (v : View) (links links' : ℕ → Link) (top : ℕ) → ((j : ℕ) → (links' j).number ≡ (links j).number) → Tied n v links top → Tied n v links' top
tied-same n v links links' top same t =
    record {
      apart = λ i j l a b. t.apart i j l (sym (same i) ∙ a) (sym (same j) ∙ b);
      drawn = λ i l a. t.drawn i l (sym (same i) ∙ a);
      here = λ l e. let x = t.here l e in (x.0, same x.0 ∙ x.1);
      there = t.there;
      later = λ j more. same j ∙ t.later j more;
    }

-- An ask that only lets links go, but for the link l0; of n it changes nothing, or n is gone.
pub record Passes (n : ℕ) (v v' : View) (l0 : ℕ) : Type 0 where
  pub goes : (l : ℕ) → l < v.next → (l ≡ l0 → ⊥) → (v'.holder l ≡ v.holder l) ⊎ (v'.holder l ≡ None)
  pub new : (l : ℕ) → v'.holder l ≡ Some n → v.holder l ≡ Some n
  pub rest : ((v'.alive ≡ v.alive) × (v'.cache ≡ v.cache)) ⊎ ((v'.alive ≡ false) × (v'.cache ≡ []))
  pub next : v.next ≤ v'.next

pub tied-passes : (n : ℕ) (v v' : View) (l0 : ℕ) (links : ℕ → Link) (top : ℕ) → Passes n v v' l0 → Tied n v links top → Tied n v' links top
tied-passes n v v' l0 links top p t =
    record {
      apart = t.apart;
      drawn = λ i l a. let e = t.drawn i l a in let f = p.next in omega arith;
      here = λ l e. t.here l (p.new l e);
      there = let e = t.there in let f = p.next in omega arith;
      later = t.later;
    }

pub fades-own : (n : ℕ) (v v' : View) (l0 : ℕ) (number : Option ℕ) → Passes n v v' l0 → ((l : ℕ) → number ≡ Some l → l < v.next) → (number ≢ Some l0) → Fades (own_of n v.holder number) (own_of n v'.holder number)
fades-own n v v' l0 None p drawn other = inl refl
fades-own n v v' l0 (Some l) p drawn other =
    elim (p.goes l (drawn l refl) (λ same. other (ap (λ k. Some k) same))) [
      | inl same ↦ inl (ap (who n) same)
      | inr none ↦ inr (ap (who n) none)
    ]

-- the scene of a run
abbrev pub scene_of : {W : Type 0} → ℕ → Run W → View → List Done → Option Answer → Scene
scene_of n run v done extra = record { top = run.top; own = λ j. own_of n v.holder (run.links j).number; links = run.links; client = run.client; alive = v.alive; cache = v.cache; done = done; extra = extra }

passes-work : (n : ℕ) (v v' : View) (l0 first drawn row : ℕ) (wait : Option Wait) (extra : Option Answer) → Passes n v v' l0 → Work first drawn row wait v.alive v.cache extra → Work first drawn row wait v'.alive v'.cache extra
passes-work n v v' l0 first drawn row wait extra p w =
    elim (p.rest) [
      | inl same ↦ subst (λ (y : Bool × List Kept). Work first drawn row wait y.0 y.1 extra) (λ k. (sym same.0 k, sym same.1 k)) w
      | inr gone ↦ subst (λ (y : Bool × List Kept). Work first drawn row wait y.0 y.1 extra) (λ k. (sym gone.0 k, sym gone.1 k)) (work-gone first drawn row wait v.alive v.cache extra w)
    ]

passes-short : (n : ℕ) (v v' : View) (l0 : ℕ) → Passes n v v' l0 → length v.cache ≤ 32 → length v'.cache ≤ 32
passes-short n v v' l0 p short =
    elim (p.rest) [
      | inl same ↦ subst (λ (c : List Kept). length c ≤ 32) (sym same.1) short
      | inr gone ↦ subst (λ (c : List Kept). length c ≤ 32) (sym gone.1) (omega arith)
    ]

pub held-passes : {W : Type 0} (t : List ℕ) (n : ℕ) (run : Run W) (v v' : View) (l0 : ℕ) (done : List Done) (extra : Option Answer)
    → Tied n v run.links run.top
    → Passes n v v' l0
    → ((i : ℕ) → (run.links i).number ≢ Some l0)
    → ((l : ℕ) → v'.holder l ≡ Some n → v'.alive ≡ true)
    → Held t (scene_of n run v done extra)
    → Held t (scene_of n run v' done extra)
held-passes t n run v v' l0 done extra tied p other lives h =
    fades t (scene_of n run v done extra) (λ j. own_of n v'.holder (run.links j).number) v'.alive v'.cache h
    (λ j. fades-own n v v' l0 (run.links j).number p (λ l e. tied.drawn j l e) (other j))
    (λ j mine. let m = own-mine n v'.holder (run.links j).number mine in lives m.0 m.2)
    (passes-work n v v' l0 run.client.first run.client.drawn run.client.row run.client.wait extra p h.work)
    (passes-short n v v' l0 p h.short)

-- ---- the laws of asks, as passes

pub passes-same : (n : ℕ) (v v' : View) (l0 : ℕ) → v' ≡ v → Passes n v v' l0
passes-same n v v' l0 e =
    record {
      goes = λ l less other. inl (ap (λ (x : View). x.holder l) e);
      new = λ l h. ap (λ (x : View). x.holder l) (sym e) ∙ h;
      rest = inl (ap (λ (x : View). x.alive) e, ap (λ (x : View). x.cache) e);
      next = let f : v'.next ≡ v.next = ap (λ (x : View). x.next) e in omega arith;
    }

-- the same view, named otherwise
pub passes-to : (n : ℕ) (v v' v'' : View) (l0 : ℕ) → v'' ≡ v' → Passes n v v' l0 → Passes n v v'' l0
passes-to n v v' v'' l0 e p = subst (λ x. Passes n v x l0) (sym e) p

pub set-goes : (h : ℕ → Option ℕ) (l0 l : ℕ) → (set h l0 None l ≡ h l) ⊎ (set h l0 None l ≡ None)
set-goes h l0 l = cond_both (nat_eq l l0) None (h l) (λ x. (x ≡ h l) ⊎ (x ≡ None)) (λ e. inr refl) (λ e. inl refl)

set-new : (h : ℕ → Option ℕ) (n l0 l : ℕ) → set h l0 None l ≡ Some n → h l ≡ Some n
set-new h n l0 l = cond_both (nat_eq l l0) None (h l) (λ x. x ≡ Some n → h l ≡ Some n) (λ e m. absurd (cc)) (λ e m. m)

pub passes-swept : (n : ℕ) (v : View) (l0 : ℕ) → Passes n v (swept v) l0
passes-swept n v l0 = record { goes = λ l less other. inl refl; new = λ l h. h; rest = inr (refl, refl); next = omega arith }

pub passes-detached : (n : ℕ) (v : View) (l l0 : ℕ) → Passes n v (detached v l) l0
passes-detached n v l l0 = record { goes = λ j less other. set-goes v.holder l j; new = λ j h. set-new v.holder n l j h; rest = inl (refl, refl); next = omega arith }

gone-or-not : (b : Bool) (alive : Bool) (cache : List Kept) → ((cond b false alive ≡ alive) × (cond b [] cache ≡ cache)) ⊎ ((cond b false alive ≡ false) × (cond b [] cache ≡ []))
gone-or-not true alive cache = inr (refl, refl)
gone-or-not false alive cache = inl (refl, refl)

pub passes-ended : (n : ℕ) (v : View) (l k l0 : ℕ) → Passes n v (ended n v l k) l0
passes-ended n v l k l0 = record { goes = λ j less other. set-goes v.holder l j; new = λ j h. set-new v.holder n l j h; rest = gone-or-not (nat_eq k n) v.alive v.cache; next = omega arith }

-- another session's store
pub passes-stored : (n : ℕ) (v : View) (k id : ℕ) (bytes : Command) (a : Answer) (l0 : ℕ) → (k ≡ n → ⊥) → Passes n v (storing n v k id bytes a) l0
passes-stored n v k id bytes a l0 other = record { goes = λ j less far. inl refl; new = λ j h. h; rest = inl (refl, cond-false (nat_eq k n) (store v.cache (request_of id bytes.sent) a) v.cache (ne_eqb k n other)); next = omega arith }

-- another session is opened
pub passes-opened : (n : ℕ) (v : View) (l0 : ℕ) → (v.next ≡ n → ⊥) → Passes n v (opened n v) l0
passes-opened n v l0 less =
    let none : nat_eq v.next n ≡ false = ne_eqb v.next n less in
    record {
      goes = λ l before far. inl (cond-false (nat_eq l v.next) (Some v.next) (v.holder l) (ne_eqb l v.next (λ e. absurd (omega arith))));
      new = λ l. cond_both (nat_eq l v.next) (Some v.next) (v.holder l) (λ x. x ≡ Some n → v.holder l ≡ Some n) (λ e m. absurd (less (cc))) (λ e m. m);
      rest = inl (cond-false (nat_eq v.next n) true v.alive none, cond-false (nat_eq v.next n) [] v.cache none);
      next = omega arith;
    }

-- another session is adopted by another one, on the link l0
pub passes-adopted : (n : ℕ) (v : View) (l0 k m : ℕ) → (m ≡ n → ⊥) → (k ≡ n → ⊥) → Passes n v (adopted n v l0 k m) l0
passes-adopted n v l0 k m other away =
    let none : nat_eq k n ≡ false = ne_eqb k n away in
    record {
      goes = λ l less far. subst (λ x. (x ≡ v.holder l) ⊎ (x ≡ None)) (sym (cond-false (nat_eq l l0) (Some m) (cond (is_some_of m (v.holder l)) None (v.holder l)) (ne_eqb l l0 far)))
          (cond_both (is_some_of m (v.holder l)) None (v.holder l) (λ x. (x ≡ v.holder l) ⊎ (x ≡ None)) (λ e. inr refl) (λ e. inl refl));
      new = λ l. cond_both (nat_eq l l0) (Some m) (cond (is_some_of m (v.holder l)) None (v.holder l)) (λ x. x ≡ Some n → v.holder l ≡ Some n)
          (λ e h. absurd (other (cc)))
          (λ e. cond_both (is_some_of m (v.holder l)) None (v.holder l) (λ x. x ≡ Some n → v.holder l ≡ Some n) (λ f h. absurd (cc)) (λ f h. h));
      rest = inl (cond-false (nat_eq k n) false v.alive none, cond-false (nat_eq k n) [] v.cache none);
      next = omega arith;
    }
