-- The invariant of a run through a request that reaches the server.
use Rattle.std.proofs.Common.{◌≡◌, ◌≢◌, ◌∙◌, inl, inr, refl, sym, ap, subst, ℕ, suc, ◌<◌, ◌≤◌, Bool, true, false, cond, List, [], ◌∷◌, ◌++◌, length, Option, Some, None, arith}
use Rattle.std.specs.Prelude.{nat_eq, ◌&&◌, ◌||◌, is_none}
use Rattle.std.proofs.lemmas.Bool.{cond_both, eqb-true, eq-eqb, ne_eqb, false≢true, true≢false, cond-true, cond-false}
use Rattle.once_across_breaks.specs.once.Messages.{Call, Body, Login, Token, Rejoin, Does, Answer, Fine, MiscErr, is_miss, is_fine, Kept, cached_call, Logout, Other as Bytes, store, Command, request_of}
use Rattle.once_across_breaks.specs.once.Server.{set, Calls, Told, Reply, Outcome, Ran, Fault, Entry, entry, View, is_some_of, ended, adopted, Answers, Runs, Adopts, CallLaw, AskLaw, Server}
use Rattle.once_across_breaks.specs.once.Run.{Asks, Coming, Going, Link, Run, id_of, tells, replies, calls_by, comes}
use Rattle.once_across_breaks.specs.once.Once.{answer_of, is_ran, picked_call, picked, effective}
use Rattle.once_across_breaks.proofs.OfOnce.Scene.{Own, Mine, Other, IsTaken, ComingOk, TellsWell, Fits, Spaced}
use Rattle.once_across_breaks.proofs.OfOnce.Ids.{fits-stored, found-stored, short-stored}
use Rattle.once_across_breaks.proofs.OfOnce.Ends.{Fades, rescene, joins, Live, live-none, live-kept, acts}
use Rattle.once_across_breaks.proofs.OfOnce.Tied.{picked_of, who, own_of, who-mine, who-is, own-mine, Tied, tied-same, Passes, tied-passes, scene_of, passes-same, passes-to, passes-ended, fades-own}
use Rattle.once_across_breaks.proofs.OfOnce.Runs.{Stands, view_of, HeldRun, stands-more, effective-more, effective-none, tells-held, not-next, set-number, drops-held, IsOpening, answered-held, again-held, none-picked, not-some}

-- the invariant, whatever the outstanding command was told
abbrev pub Holds : {W : Type 0} {Sound : W → Type 0} → Server W Sound → ℕ → W → Run W → Type 0
Holds s n w0 run = (ex : Option Answer) × HeldRun s n w0 ex run

or-none : (b : Bool) → (b || false) ≡ b
or-none true = refl
or-none false = refl

or-true : (b : Bool) → (b || true) ≡ true
or-true true = refl
or-true false = refl

-- ---- an ask that leaves all as it is

pub same-held : {W : Type 0} {Sound : W → Type 0} (s : Server W Sound) (n : ℕ) (w0 : W) (ex : Option Answer) (run : Run W) (e : Entry) → s.is_legal run.world e ≡ true → s.view (s.after run.world e) n ≡ view_of s n run → picked_of s.machine n run.world e ≡ [] → HeldRun s n w0 ex run → HeldRun s n w0 ex (tells s.machine run e)
same-held s n w0 ex run e legal same none h =
    let v : View = view_of s n run in
    tells-held s n w0 ex run e v.next legal (passes-same n v (s.view (s.after run.world e) n) v.next same) (not-next n v run.links run.top h.tied) none h

-- ---- DisconnectOldSession is told Ok

adopted-holder : (n : ℕ) (v : View) (l k m : ℕ) → (m ≡ l → ⊥) → (adopted n v l k n).holder m ≡ cond (is_some_of n (v.holder m)) None (v.holder m)
adopted-holder n v l k m far = cond-false (nat_eq m l) (Some n) (cond (is_some_of n (v.holder m)) None (v.holder m)) (ne_eqb m l far)

adopted-here : (n : ℕ) (v : View) (l k : ℕ) → (adopted n v l k n).holder l ≡ Some n
adopted-here n v l k = cond-true (nat_eq l l) (Some n) (cond (is_some_of n (v.holder l)) None (v.holder l)) (eq-eqb l l refl)

cleared : (n : ℕ) (o : Option ℕ) → Fades (who n o) (who n (cond (is_some_of n o) None o)) × (who n (cond (is_some_of n o) None o) ≢ Mine)
cleared n o =
    cond_both (is_some_of n o) None o (λ x. Fades (who n o) (who n x) × (who n x ≢ Mine))
    (λ e. (inr refl, λ m. absurd (cc)))
    (λ e. (inl refl, λ m. true≢false (sym (eq-eqb n n refl) ∙ ap (is_some_of n) (sym (who-mine n o m)) ∙ e)))

adopted-own : (n : ℕ) (v : View) (l k : ℕ) (number : Option ℕ) → (number ≡ Some l → ⊥) → Fades (own_of n v.holder number) (own_of n (adopted n v l k n).holder number) × (own_of n (adopted n v l k n).holder number ≢ Mine)
adopted-own n v l k None far = (inl refl, λ m. absurd (cc))
adopted-own n v l k (Some m) far = subst (λ x. Fades (who n (v.holder m)) (who n x) × (who n x ≢ Mine)) (sym (adopted-holder n v l k m (λ e. far (ap (λ j. Some j) e)))) (cleared n (v.holder m))

tied-adopted : (n : ℕ) (v : View) (l k : ℕ) (links : ℕ → Link) (top i : ℕ) → (links i).number ≡ Some l → Tied n v links top → Tied n (adopted n v l k n) links top
tied-adopted n v l k links top i is t =
    record {
      apart = t.apart;
      drawn = t.drawn;
      here = λ m. cond_both (nat_eq m l) (Some n) (cond (is_some_of n (v.holder m)) None (v.holder m)) (λ x. x ≡ Some n → (j : ℕ) × ((links j).number ≡ Some m))
          (λ e f. (i, is ∙ ap (λ j. Some j) (sym (eqb-true m l e))))
          (λ e. cond_both (is_some_of n (v.holder m)) None (v.holder m) (λ x. x ≡ Some n → (j : ℕ) × ((links j).number ≡ Some m)) (λ f g. absurd (cc)) (λ f g. t.here m g));
      there = t.there;
      later = t.later;
    }

joins-held : {W : Type 0} {Sound : W → Type 0} (s : Server W Sound) (n : ℕ) (w0 : W) (ex : Option Answer) (run : Run W) (e : Entry) (i id l k : ℕ) (b x : List ℕ) (again : Bool)
    → s.is_legal run.world e ≡ true
    → (run.links i).number ≡ Some l
    → (run.links i).slot ≡ Coming (Asks id (Rejoin x) again)
    → (n ≡ k → ⊥)
    → s.view (s.after run.world e) n ≡ adopted n (view_of s n run) l k n
    → picked_of s.machine n run.world e ≡ []
    → HeldRun s n w0 ex run
    → HeldRun s n w0 ex (replies (tells s.machine run e) i id (Rejoin x) again (Reply (Fine b) false))
joins-held s n w0 ex run e i id l k b x again legal number coming other left none h =
    record {
      stands = record { sound = st.sound; is = st.is };
      tied = tied-same n v' run.links (set run.links i link) run.top (set-number run.links i link refl) (subst (λ y. Tied n y run.links run.top) (sym left) (tied-adopted n v l k run.links run.top i number h.tied));
      held = rescene (s.token n)
          (record { top = run.top; own = own'; links = set run.links i link; client = run.client; alive = v.alive; cache = v.cache; done = effective s.machine n w0 run.history; extra = ex })
          (λ j. own_of n v'.holder (set run.links i link j).number) v'.alive v'.cache (effective s.machine n w0 (run.history ++ e ∷ []))
          (λ j. ap (own_of n v'.holder) (sym (set-number run.links i link refl j)))
          (sym (ap (λ (y : View). y.alive) left ∙ cond-false (nat_eq k n) false v.alive far))
          (sym (ap (λ (y : View). y.cache) left ∙ cond-false (nat_eq k n) [] v.cache far))
          (effective-none s n w0 run e h.stands none)
          (joins (s.token n) (scene_of n run v (effective s.machine n w0 run.history) ex) own' i id x again (Asks id (Rejoin x) again) (Fine b) link h.held coming (or-true (run.links i).got) refl mine
          (λ j away. subst (λ (y : View). Fades (own_of n v.holder (run.links j).number) (own_of n y.holder (run.links j).number) × (own_of n y.holder (run.links j).number ≢ Mine)) (sym left)
          (adopted-own n v l k (run.links j).number (λ f. away (h.tied.apart j i l f number))))
          alive);
    }
  where
    st : Stands s w0 (tells s.machine run e)
    st = stands-more s w0 run e legal h.stands

    v : View
    v = view_of s n run

    v' : View
    v' = s.view (s.after run.world e) n

    link : Link
    link = record { number = (run.links i).number; ended = false; slot = Going (Asks id (Rejoin x) again) (Fine b); got = (run.links i).got || true }

    own' : ℕ → Own
    own' = λ j. own_of n v'.holder (run.links j).number

    far : nat_eq k n ≡ false
    far = ne_eqb k n (λ f. other (sym f))

    held_there : v'.holder l ≡ Some n
    held_there = ap (λ (y : View). y.holder l) left ∙ adopted-here n v l k

    mine : own' i ≡ Mine
    mine = ap (own_of n v'.holder) number ∙ who-is n (v'.holder l) held_there

    alive : v.alive ≡ true
    alive = sym (ap (λ (y : View). y.alive) left ∙ cond-false (nat_eq k n) false v.alive far) ∙ s.held_is_alive (s.after run.world e) n l st.sound held_there

-- ---- a command has its effect

acts-held : {W : Type 0} {Sound : W → Type 0} (s : Server W Sound) (n : ℕ) (w0 : W) (ex : Option Answer) (run : Run W) (e : Entry) (i id : ℕ) (call : Call) (again ends : Bool) (a : Answer)
    → s.is_legal run.world e ≡ true
    → Live (scene_of n run (view_of s n run) (effective s.machine n w0 run.history) ex) i id call again
    → ex ≡ None → is_miss a ≡ false
    → ((j : ℕ) → Fades (own_of n (view_of s n run).holder (run.links j).number) (own_of n (s.view (s.after run.world e) n).holder (run.links j).number))
    → Tied n (s.view (s.after run.world e) n) run.links run.top
    → picked_of s.machine n run.world e ≡ record { id = id; call = call; answer = a } ∷ []
    → ((s.view (s.after run.world e) n).alive ≡ true → cached_call (s.view (s.after run.world e) n).cache id call ≡ Some a)
    → ((q : ℕ) → Spaced run.client.first q (view_of s n run).cache → id ≡ id_of run.client.first q → Fits run.client.first (suc q) 0 (s.view (s.after run.world e) n).cache)
    → length (s.view (s.after run.world e) n).cache ≤ 32
    → run.client.row < 1900
    → HeldRun s n w0 ex run
    → HeldRun s n w0 (Some a) (replies (tells s.machine run e) i id (Does call) again (Reply a ends))
acts-held s n w0 ex run e i id call again ends a legal live none no_miss fade tied picks found fits short less h =
    record {
      stands = record { sound = st.sound; is = st.is };
      tied = tied-same n v' run.links (set run.links i link) run.top (set-number run.links i link refl) tied;
      held = rescene (s.token n)
          (record { top = run.top; own = own'; links = set run.links i link; client = run.client; alive = v'.alive; cache = v'.cache; done = effective s.machine n w0 run.history ++ record { id = id; call = call; answer = a } ∷ []; extra = Some a })
          (λ j. own_of n v'.holder (set run.links i link j).number) v'.alive v'.cache (effective s.machine n w0 (run.history ++ e ∷ []))
          (λ j. ap (own_of n v'.holder) (sym (set-number run.links i link refl j))) refl refl
          (sym (effective-more s n w0 run e h.stands ∙ ap (λ ds. effective s.machine n w0 run.history ++ ds) picks))
          (acts (s.token n) (scene_of n run v (effective s.machine n w0 run.history) ex) own' v'.alive v'.cache i id call again a link h.held live none no_miss (or-none (run.links i).got) refl fade
          (λ j mine. let m = own-mine n v'.holder (run.links j).number mine in s.held_is_alive (s.after run.world e) n m.0 st.sound m.2)
          found fits short less);
    }
  where
    st : Stands s w0 (tells s.machine run e)
    st = stands-more s w0 run e legal h.stands

    v : View
    v = view_of s n run

    v' : View
    v' = s.view (s.after run.world e) n

    link : Link
    link = record { number = (run.links i).number; ended = ends; slot = Going (Asks id (Does call) again) a; got = (run.links i).got || false }

    own' : ℕ → Own
    own' = λ j. own_of n v'.holder (run.links j).number

-- ---- a request, by its body

-- what is known where a request of a session has come
record Arrived {W : Type 0} {Sound : W → Type 0} (s : Server W Sound) (n : ℕ) (w0 : W) (ex : Option Answer) (run : Run W) (i l id : ℕ) (body : Body) (again : Bool) (e : Entry) : Type 0 where
  h : HeldRun s n w0 ex run
  legal : s.is_legal run.world e ≡ true
  number : (run.links i).number ≡ Some l
  coming : (run.links i).slot ≡ Coming (Asks id body again)
  less : run.client.row < 1900
  link : e.link ≡ l
  asks : e.ask ≡ Calls id body

no-picks : {W : Type 0} {Sound : W → Type 0} (s : Server W Sound) (n : ℕ) (w0 : W) (ex : Option Answer) (run : Run W) (i l id : ℕ) (body : Body) (again : Bool) (e : Entry) → Arrived s n w0 ex run i l id body again e → picked_call n (view_of s n run) l id body e.outcome (s.told run.world e) ≡ [] → picked_of s.machine n run.world e ≡ []
no-picks s n w0 ex run i l id body again e r none = (λ k. picked n (view_of s n run) (r.link k) (r.asks k) e.outcome (s.told run.world e)) ∙ none

opening-reply : {W : Type 0} {Sound : W → Type 0} (s : Server W Sound) (n : ℕ) (w0 : W) (ex : Option Answer) (run : Run W) (i l id : ℕ) (body : Body) (again : Bool) (e : Entry) (a : Answer)
    → Arrived s n w0 ex run i l id body again e
    → IsOpening body → (body ≡ Rejoin (s.token n) → is_fine a ≡ false) → comes body a ≡ false
    → picked_call n (view_of s n run) l id body e.outcome (s.told run.world e) ≡ []
    → Answers (view_of s n run) (s.told run.world e) (s.view (s.after run.world e) n) a
    → Holds s n w0 (calls_by s.machine run i id body again e)
opening-reply s n w0 ex run i l id body again e a r op bad stays none law = (
  ex,
  subst (λ t. HeldRun s n w0 ex (replies (tells s.machine run e) i id body again t)) (sym law.told)
      (answered-held s n w0 ex (tells s.machine run e) i id body again false ((run.links i).got || comes body a) a op bad r.coming (ap (λ b. (run.links i).got || b) stays ∙ or-none (run.links i).got)
      (same-held s n w0 ex run e r.legal law.left (no-picks s n w0 ex run i l id body again e r none) r.h)),
)

rejoin-token : {W : Type 0} {Sound : W → Type 0} (s : Server W Sound) (n : ℕ) (w0 : W) (ex : Option Answer) (run : Run W) (i l id : ℕ) (x : List ℕ) (again : Bool) (e : Entry) → Arrived s n w0 ex run i l id (Rejoin x) again e → x ≡ s.token n
rejoin-token s n w0 ex run i l id x again e r = subst (λ sl. ComingOk (s.token n) run.client.wait (own_of n (view_of s n run).holder (run.links i).number) (run.links i).got sl) r.coming (r.h.held.each i).coming

rejoined : {W : Type 0} {Sound : W → Type 0} (s : Server W Sound) (n : ℕ) (w0 : W) (ex : Option Answer) (run : Run W) (i l id : ℕ) (x : List ℕ) (k m : ℕ) (b : List ℕ) (again : Bool) (e : Entry)
    → Arrived s n w0 ex run i l id (Rejoin x) again e
    → Adopts s.token n (view_of s n run) l k x (s.told run.world e) (s.view (s.after run.world e) n) m b
    → Holds s n w0 (calls_by s.machine run i id (Rejoin x) again e)
rejoined s n w0 ex run i l id x k m b again e r law =
    let same : m ≡ n = s.tokens_differ m n (let less = law.drawn in let ends = s.drawn_ends run.world n r.h.stands.sound in omega arith) (let less = r.h.tied.there in let ends = s.drawn_ends run.world n r.h.stands.sound in omega arith) (sym law.is_token ∙ rejoin-token s n w0 ex run i l id x again e r) in (
      ex,
      subst (λ t. HeldRun s n w0 ex (replies (tells s.machine run e) i id (Rejoin x) again t)) (sym law.told)
          (joins-held s n w0 ex run e i id l k b x again r.legal r.number r.coming (λ f. law.other (same ∙ f)) (law.left ∙ ap (adopted n (view_of s n run) l k) same)
          (no-picks s n w0 ex run i l id (Rejoin x) again e r refl) r.h),
    )

-- a command on a link with a session comes to n
taken-mine : (n k : ℕ) → IsTaken (who n (Some k)) → k ≡ n
taken-mine n k = cond_both (nat_eq k n) Mine Other (λ o. IsTaken o → k ≡ n) (λ e t. eqb-true k n e) (λ e t. absurd t)

command-mine : {W : Type 0} {Sound : W → Type 0} (s : Server W Sound) (n : ℕ) (w0 : W) (ex : Option Answer) (run : Run W) (i l id k : ℕ) (call : Call) (again : Bool) (e : Entry) → Arrived s n w0 ex run i l id (Does call) again e → (view_of s n run).holder l ≡ Some k → k ≡ n
command-mine s n w0 ex run i l id k call again e r holds =
    let got : (run.links i).got ≡ true = (subst (λ sl. ComingOk (s.token n) run.client.wait (own_of n (view_of s n run).holder (run.links i).number) (run.links i).got sl) r.coming (r.h.held.each i).coming).0 in
    taken-mine n k (subst (λ o. IsTaken o) (ap (own_of n (view_of s n run).holder) r.number ∙ ap (who n) holds) ((r.h.held.each i).got_own got))

picks-one : (n : ℕ) (v : View) (l id : ℕ) (call : Call) (o : Outcome) (t : Told) (a : Answer) → v.holder l ≡ Some n → o ≡ Ran → cached_call v.cache id call ≡ None → answer_of t ≡ a → picked_call n v l id (Does call) o t ≡ record { id = id; call = call; answer = a } ∷ []
picks-one n v l id call o t a holds ran none is =
    (λ k. cond (is_some_of n (holds k) && (is_ran (ran k) && is_none (none k))) (record { id = id; call = call; answer = is k } ∷ []) [])
    ∙ ap (λ b. cond (b && true) (record { id = id; call = call; answer = a } ∷ []) []) (eq-eqb n n refl)

picks-none-kept : (n : ℕ) (v : View) (l id : ℕ) (call : Call) (o : Outcome) (t : Told) (a : Answer) → v.holder l ≡ Some n → cached_call v.cache id call ≡ Some a → picked_call n v l id (Does call) o t ≡ []
picks-none-kept n v l id call Ran t a holds is =
    (λ k. cond (is_some_of n (holds k) && (true && is_none (is k))) (record { id = id; call = call; answer = answer_of t } ∷ []) [])
    ∙ ap (λ b. cond (b && false) (record { id = id; call = call; answer = answer_of t } ∷ []) []) (eq-eqb n n refl)
picks-none-kept n v l id call Fault t a holds is =
    (λ k. cond (is_some_of n (holds k) && false) (record { id = id; call = call; answer = answer_of t } ∷ []) [])
    ∙ ap (λ b. cond (b && false) (record { id = id; call = call; answer = answer_of t } ∷ []) []) (eq-eqb n n refl)

picks-none-fault : (n : ℕ) (v : View) (l id : ℕ) (call : Call) (o : Outcome) (t : Told) → v.holder l ≡ Some n → o ≡ Fault → picked_call n v l id (Does call) o t ≡ []
picks-none-fault n v l id call o t holds fault =
    (λ k. cond (is_some_of n (holds k) && (is_ran (fault k) && is_none (cached_call v.cache id call))) (record { id = id; call = call; answer = answer_of t } ∷ []) [])
    ∙ ap (λ b. cond (b && false) (record { id = id; call = call; answer = answer_of t } ∷ []) []) (eq-eqb n n refl)

live-here : {W : Type 0} {Sound : W → Type 0} (s : Server W Sound) (n : ℕ) (w0 : W) (ex : Option Answer) (run : Run W) (i l id : ℕ) (call : Call) (again : Bool) (e : Entry) → Arrived s n w0 ex run i l id (Does call) again e → (view_of s n run).holder l ≡ Some n → Live (scene_of n run (view_of s n run) (effective s.machine n w0 run.history) ex) i id call again
live-here s n w0 ex run i l id call again e r holds = record { mine = ap (own_of n (view_of s n run).holder) r.number ∙ who-is n ((view_of s n run).holder l) holds; coming = r.coming }

logged-out : {W : Type 0} {Sound : W → Type 0} (s : Server W Sound) (n : ℕ) (w0 : W) (ex : Option Answer) (run : Run W) (i l id : ℕ) (b : List ℕ) (again : Bool) (e : Entry)
    → Arrived s n w0 ex run i l id (Does Logout) again e → (view_of s n run).holder l ≡ Some n
    → s.told run.world e ≡ Reply (Fine b) true → s.view (s.after run.world e) n ≡ ended n (view_of s n run) l n → e.outcome ≡ Ran
    → Holds s n w0 (calls_by s.machine run i id (Does Logout) again e)
logged-out s n w0 ex run i l id b again e r holds told left ran =
    let v : View = view_of s n run in
    let v' : View = s.view (s.after run.world e) n in
    let live = live-here s n w0 ex run i l id Logout again e r holds in
    let p : Passes n v v' v.next = passes-to n v (ended n v l n) v' v.next left (passes-ended n v l n v.next) in
    let dead : v'.alive ≡ false = ap (λ (y : View). y.alive) left ∙ cond-true (nat_eq n n) false v.alive (eq-eqb n n refl) in
    let empty : v'.cache ≡ [] = ap (λ (y : View). y.cache) left ∙ cond-true (nat_eq n n) [] v.cache (eq-eqb n n refl) in (
      Some (Fine b),
      subst (λ t. HeldRun s n w0 (Some (Fine b)) (replies (tells s.machine run e) i id (Does Logout) again t)) (sym told)
          (acts-held s n w0 ex run e i id Logout again true (Fine b) r.legal live
          (live-none (s.token n) (scene_of n run v (effective s.machine n w0 run.history) ex) i id Logout again r.h.held live refl) refl
          (λ j. fades-own n v v' v.next (run.links j).number p (λ m f. r.h.tied.drawn j m f) (not-next n v run.links run.top r.h.tied j))
          (tied-passes n v v' v.next run.links run.top p r.h.tied)
          ((λ k. picked n v (r.link k) (r.asks k) e.outcome (s.told run.world e)) ∙ picks-one n v l id Logout e.outcome (s.told run.world e) (Fine b) holds ran refl (ap answer_of told))
          (λ f. absurd (false≢true (sym dead ∙ f)))
          (λ q sp is. subst (λ (c : List Kept). Fits run.client.first (suc q) 0 c) (sym empty) tt)
          (subst (λ (c : List Kept). length c ≤ 32) (sym empty) (omega arith)) r.less r.h),
    )

ran : {W : Type 0} {Sound : W → Type 0} (s : Server W Sound) (n : ℕ) (w0 : W) (ex : Option Answer) (run : Run W) (i l id : ℕ) (bytes : Command) (again : Bool) (e : Entry) (a : Answer)
    → Arrived s n w0 ex run i l id (Does (Bytes bytes)) again e → (view_of s n run).holder l ≡ Some n
    → Runs n (view_of s n run) n id bytes e.outcome (s.told run.world e) (s.view (s.after run.world e) n) a
    → Holds s n w0 (calls_by s.machine run i id (Does (Bytes bytes)) again e)
ran s n w0 ex run i l id bytes again e a r holds law =
    let v : View = view_of s n run in
    let v' : View = s.view (s.after run.world e) n in
    let live = live-here s n w0 ex run i l id (Bytes bytes) again e r holds in
    let cache : v'.cache ≡ store v.cache (request_of id bytes.sent) a = ap (λ (y : View). y.cache) law.left ∙ cond-true (nat_eq n n) (store v.cache (request_of id bytes.sent) a) v.cache (eq-eqb n n refl) in (
      Some a,
      subst (λ t. HeldRun s n w0 (Some a) (replies (tells s.machine run e) i id (Does (Bytes bytes)) again t)) (sym law.told)
          (acts-held s n w0 ex run e i id (Bytes bytes) again false a r.legal live
          (live-none (s.token n) (scene_of n run v (effective s.machine n w0 run.history) ex) i id (Bytes bytes) again r.h.held live (law.none_kept refl)) law.no_miss
          (λ j. inl (ap (λ (y : View). own_of n y.holder (run.links j).number) law.left))
          (subst (λ y. Tied n y run.links run.top) (sym law.left) (record { apart = r.h.tied.apart; drawn = r.h.tied.drawn; here = r.h.tied.here; there = r.h.tied.there; later = r.h.tied.later }))
          ((λ k. picked n v (r.link k) (r.asks k) e.outcome (s.told run.world e)) ∙ picks-one n v l id (Bytes bytes) e.outcome (s.told run.world e) a holds law.ran (law.none_kept refl) (ap answer_of law.told))
          (λ f. ap (λ c. cached_call c id (Bytes bytes)) cache ∙ found-stored v.cache (request_of id bytes.sent) a)
          (λ q sp is. subst (λ (c : List Kept). Fits run.client.first (suc q) 0 c) (sym cache) (fits-stored run.client.first q id bytes.sent a v.cache sp is))
          (subst (λ (c : List Kept). length c ≤ 32) (sym cache) (short-stored v.cache (request_of id bytes.sent) a)) r.less r.h),
    )

repeated : {W : Type 0} {Sound : W → Type 0} (s : Server W Sound) (n : ℕ) (w0 : W) (ex : Option Answer) (run : Run W) (i l id : ℕ) (call : Call) (again : Bool) (e : Entry) (a : Answer)
    → Arrived s n w0 ex run i l id (Does call) again e
    → s.told run.world e ≡ Reply a false → s.view (s.after run.world e) n ≡ view_of s n run
    → picked_call n (view_of s n run) l id (Does call) e.outcome (s.told run.world e) ≡ []
    → TellsWell ex a
    → Holds s n w0 (calls_by s.machine run i id (Does call) again e)
repeated s n w0 ex run i l id call again e a r told left none well = (
  ex,
  subst (λ t. HeldRun s n w0 ex (replies (tells s.machine run e) i id (Does call) again t)) (sym told)
      (again-held s n w0 ex (tells s.machine run e) i id call again false ((run.links i).got || false) a
      (same-held s n w0 ex run e r.legal left (no-picks s n w0 ex run i l id (Does call) again e r none) r.h) r.coming (or-none (run.links i).got) (λ top ready. well)),
)

tells-kept : (ex : Option Answer) (a : Answer) → ex ≡ Some a → TellsWell ex a
tells-kept ex a e = subst (λ x. TellsWell x a) (sym e) refl

pub tells-miss : (ex : Option Answer) (a : Answer) → ex ≡ None → is_miss a ≡ true → TellsWell ex a
tells-miss ex a e miss = subst (λ x. TellsWell x a) (sym e) miss

command-at : {W : Type 0} {Sound : W → Type 0} (s : Server W Sound) (n : ℕ) (w0 : W) (ex : Option Answer) (run : Run W) (i l id : ℕ) (call : Call) (again : Bool) (e : Entry)
    → Arrived s n w0 ex run i l id (Does call) again e → (view_of s n run).holder l ≡ Some n
    → CallLaw s.token n (view_of s n run) l n id (Does call) e.outcome (s.told run.world e) (s.view (s.after run.world e) n)
    → Holds s n w0 (calls_by s.machine run i id (Does call) again e)
command-at s n w0 ex run i l id Logout again e r holds (b, told, left, ran) = logged-out s n w0 ex run i l id b again e r holds told left ran
command-at s n w0 ex run i l id (Bytes bytes) again e r holds (inl (a, law)) =
    repeated s n w0 ex run i l id (Bytes bytes) again e a r law.told law.left (picks-none-kept n (view_of s n run) l id (Bytes bytes) e.outcome (s.told run.world e) a holds (law.is_kept refl))
    (tells-kept ex a (live-kept (s.token n) (scene_of n run (view_of s n run) (effective s.machine n w0 run.history) ex) i id (Bytes bytes) again a r.h.held (live-here s n w0 ex run i l id (Bytes bytes) again e r holds) r.less (law.is_kept refl)))
command-at s n w0 ex run i l id (Bytes bytes) again e r holds (inr (inl law)) =
    repeated s n w0 ex run i l id (Bytes bytes) again e MiscErr r law.told law.left (picks-none-fault n (view_of s n run) l id (Bytes bytes) e.outcome (s.told run.world e) holds law.fault)
    (tells-miss ex MiscErr (live-none (s.token n) (scene_of n run (view_of s n run) (effective s.machine n w0 run.history) ex) i id (Bytes bytes) again r.h.held (live-here s n w0 ex run i l id (Bytes bytes) again e r holds) (law.none_kept refl)) refl)
command-at s n w0 ex run i l id (Bytes bytes) again e r holds (inr (inr (a, law))) = ran s n w0 ex run i l id bytes again e a r holds law

called-at : {W : Type 0} {Sound : W → Type 0} (s : Server W Sound) (n : ℕ) (w0 : W) (ex : Option Answer) (run : Run W) (i l id k : ℕ) (body : Body) (again : Bool) (e : Entry)
    → Arrived s n w0 ex run i l id body again e → (view_of s n run).holder l ≡ Some k
    → CallLaw s.token n (view_of s n run) l k id body e.outcome (s.told run.world e) (s.view (s.after run.world e) n)
    → Holds s n w0 (calls_by s.machine run i id body again e)
called-at s n w0 ex run i l id k Login again e r holds (a, law) = opening-reply s n w0 ex run i l id Login again e a r tt (λ f. absurd (cc)) refl refl law
called-at s n w0 ex run i l id k Token again e r holds (a, law, is) = opening-reply s n w0 ex run i l id Token again e a r tt (λ f. absurd (cc)) refl refl law
called-at s n w0 ex run i l id k (Rejoin x) again e r holds (inl (a, law, bad)) = opening-reply s n w0 ex run i l id (Rejoin x) again e a r tt (λ f. bad) bad refl law
called-at s n w0 ex run i l id k (Rejoin x) again e r holds (inr (m, b, law)) = rejoined s n w0 ex run i l id x k m b again e r law
called-at s n w0 ex run i l id k (Does call) again e r holds law =
    let same : k ≡ n = command-mine s n w0 ex run i l id k call again e r holds in
    command-at s n w0 ex run i l id call again e r (holds ∙ ap (λ j. Some j) same) (subst (λ j. CallLaw s.token n (view_of s n run) l j id (Does call) e.outcome (s.told run.world e) (s.view (s.after run.world e) n)) same law)

called-by : {W : Type 0} {Sound : W → Type 0} (s : Server W Sound) (n : ℕ) (w0 : W) (ex : Option Answer) (run : Run W) (i l id : ℕ) (body : Body) (again : Bool) (e : Entry) (o : Option ℕ)
    → Arrived s n w0 ex run i l id body again e → (view_of s n run).holder l ≡ o
    → AskLaw s.token n (view_of s n run) l o (Calls id body) e.outcome (s.told run.world e) (s.view (s.after run.world e) n)
    → Holds s n w0 (calls_by s.machine run i id body again e)
called-by s n w0 ex run i l id body again e None r holds (told, left) = (
  ex,
  subst (λ t. HeldRun s n w0 ex (replies (tells s.machine run e) i id body again t)) (sym told)
      (drops-held s n w0 ex (tells s.machine run e) i (same-held s n w0 ex run e r.legal left (no-picks s n w0 ex run i l id body again e r (none-picked n (view_of s n run) l id body e.outcome (s.told run.world e) (not-some n ((view_of s n run).holder l) (λ f. absurd (let g : None ≡ Some n = sym holds ∙ f in cc))))) r.h)),
)
called-by s n w0 ex run i l id body again e (Some k) r holds law = called-at s n w0 ex run i l id k body again e r holds law

pub called : {W : Type 0} {Sound : W → Type 0} (s : Server W Sound) (n : ℕ) (w0 : W) (ex : Option Answer) (run : Run W) (i l moment id : ℕ) (body : Body) (again : Bool) (o : Outcome)
    → s.is_legal run.world (entry l moment (Calls id body) o) ≡ true → (run.links i).number ≡ Some l → (run.links i).slot ≡ Coming (Asks id body again) → run.client.row < 1900
    → HeldRun s n w0 ex run → Holds s n w0 (calls_by s.machine run i id body again (entry l moment (Calls id body) o))
called s n w0 ex run i l moment id body again o legal number coming less h =
    called-by s n w0 ex run i l id body again (entry l moment (Calls id body) o) ((view_of s n run).holder l)
    (record { h = h; legal = legal; number = number; coming = coming; less = less; link = refl; asks = refl }) refl
    (s.answers run.world n (entry l moment (Calls id body) o) h.stands.sound legal)
