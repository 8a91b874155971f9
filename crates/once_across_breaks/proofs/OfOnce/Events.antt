-- The invariant through every event of a schedule.
use Rattle.std.proofs.Common.{◌≡◌, ◌∙◌, ◌⊎◌, inl, inr, refl, sym, ap, subst, ℕ, suc, ◌<◌, Bool, true, false, List, [], ◌∷◌, ◌++◌, Option, Some, None, arith}
use Rattle.std.specs.Prelude.{nat_eq, nat_lt, ◌&&◌}
use Rattle.std.proofs.lemmas.Bool.{cond_both, eq-eqb, ne_eqb, cases_eq, cond-true, cond-false, and_parts}
use Rattle.once_across_breaks.specs.once.Messages.{Call, Body, Login, Token, Rejoin, Does, Answer, Fine, MiscErr, NoMemory, Refuses, is_fine}
use Rattle.once_across_breaks.specs.once.Server.{set, Open, Calls, Pulse, Bye, Lost, Opened, Reply, Ran, Fault, Entry, entry, View, opened, Server}
use Rattle.once_across_breaks.specs.once.Run.{Request, Opens, Asks, Slot, Idle, Coming, Going, Link, blank, Stage, Opening, Entering, Joining, Ready, Gone, Wait, Client, Run, Wish, id_of, with_slot, with_link, tells, chosen, calls_by, calls, opens_by, opens_told, opens, arrives, to_server}
use Rattle.once_across_breaks.specs.once.Once.{effective}
use Rattle.once_across_breaks.proofs.OfOnce.Scene.{Own, Fresh, Mine, Scene, ComingOk, TellsWell, StageOk, ReadySlot, Held}
use Rattle.once_across_breaks.proofs.OfOnce.Ends.{rescene, opens-link}
use Rattle.once_across_breaks.proofs.OfOnce.Tied.{picked_of, own_of, own-mine, Tied, tied-same, scene_of, passes-to, passes-opened}
use Rattle.once_across_breaks.specs.once.Run.{with_client, commands, draws, opens_with, in_stage, last_body, again, same_request, steps_on, takes_step, with_result, sent_again, takes_reply, takes_for, takes, to_client, stage_anew, breaks, Event, Commands, ToServer, ToClient, Quiet, Loses, Drains, Ends, Breaks, Others, step}
use Rattle.once_across_breaks.specs.once.Once.{is_again, Allowed}
use Rattle.once_across_breaks.proofs.OfOnce.Steps.{asks, results, retries, opening-moves, readies, begins-link}
use Rattle.once_across_breaks.proofs.OfOnce.Runs.{Stands, view_of, HeldRun, tells-held, not-next, set-number, link-held, drops-held, ends-held, answered-held, again-held, parting-held, quiet-held, parts-held, others-held, held-within}
use Rattle.once_across_breaks.proofs.OfOnce.Arrivals.{Holds, called, same-held, tells-miss}

pub set-at : {A : Type 0} (f : ℕ → A) (i : ℕ) (x : A) (j : ℕ) → j ≡ i → set f i x j ≡ x
set-at f i x j e = cond-true (nat_eq j i) x (f j) (eq-eqb j i e)

pub set-off : {A : Type 0} (f : ℕ → A) (i : ℕ) (x : A) (j : ℕ) → (j ≡ i → ⊥) → set f i x j ≡ f j
set-off f i x j e = cond-false (nat_eq j i) x (f j) (ne_eqb j i e)

-- ---- want of memory at a request

memory-well : (t : List ℕ) (wait : Option Wait) (ex : Option Answer) (id : ℕ) (call : Call) (again : Bool) → again ≡ false → ReadySlot wait ex (Coming (Asks id (Does call) again)) → TellsWell ex NoMemory
memory-well t None ex id call again first ok = absurd (let e : Coming (Asks id (Does call) again) ≡ Idle = ok in cc)
memory-well t (Some w) ex id call again first ok = tells-miss ex NoMemory (ok.2 first) refl

memory-held : {W : Type 0} {Sound : W → Type 0} (s : Server W Sound) (n : ℕ) (w0 : W) (ex : Option Answer) (run : Run W) (i id : ℕ) (body : Body) (again : Bool)
    → again ≡ false → (run.links i).slot ≡ Coming (Asks id body again) → HeldRun s n w0 ex run
    → HeldRun s n w0 ex (with_link run i (with_slot (run.links i) (Going (Asks id body again) NoMemory)))
memory-held s n w0 ex run i id Login again first coming h = answered-held s n w0 ex run i id Login again (run.links i).ended (run.links i).got NoMemory tt (λ e. refl) coming refl h
memory-held s n w0 ex run i id Token again first coming h = answered-held s n w0 ex run i id Token again (run.links i).ended (run.links i).got NoMemory tt (λ e. refl) coming refl h
memory-held s n w0 ex run i id (Rejoin x) again first coming h = answered-held s n w0 ex run i id (Rejoin x) again (run.links i).ended (run.links i).got NoMemory tt (λ e. refl) coming refl h
memory-held s n w0 ex run i id (Does call) again first coming h =
    again-held s n w0 ex run i id call again (run.links i).ended (run.links i).got NoMemory h coming refl
    (λ top ready. memory-well (s.token n) run.client.wait ex id call again first
    ((subst (λ (y : Stage × ℕ × Slot). StageOk (s.token n) y.0 run.client.wait ex (run.links y.1).got y.2) (λ k. (ready k, sym top k, (ap (λ m. (run.links m).slot) (sym top) ∙ coming) k)) h.held.stage).1))

calls-held : {W : Type 0} {Sound : W → Type 0} (s : Server W Sound) (n : ℕ) (w0 : W) (ex : Option Answer) (run : Run W) (i link moment : ℕ) (wish : Wish) (id : ℕ) (body : Body) (again : Bool)
    → (wish.memory ≡ true → again ≡ false) → (run.links i).number ≡ Some link → (run.links i).slot ≡ Coming (Asks id body again) → run.client.row < 1900 → HeldRun s n w0 ex run
    → Holds s n w0 (calls s.machine run i link moment wish id body again)
calls-held s n w0 ex run i link moment wish id body again first number coming less h =
    cond_both wish.memory (with_link run i (with_slot (run.links i) (Going (Asks id body again) NoMemory))) (calls_by s.machine run i id body again (chosen s.machine run link moment (Calls id body) wish.fault)) (Holds s n w0)
    (λ e. (ex, memory-held s n w0 ex run i id body again (first e) coming h))
    (λ e. cond_both (wish.fault && s.is_legal run.world (entry link moment (Calls id body) Fault)) (entry link moment (Calls id body) Fault) (entry link moment (Calls id body) Ran) (λ x. Holds s n w0 (calls_by s.machine run i id body again x))
    (λ f. called s n w0 ex run i link moment id body again Fault (and_parts wish.fault (s.is_legal run.world (entry link moment (Calls id body) Fault)) f).1 number coming less h)
    (λ f. called s n w0 ex run i link moment id body again Ran (s.ran_is_legal run.world link moment (Calls id body) (held-within s n w0 ex run i link h number)) number coming less h))

-- ---- OpenSession

tied-opened : (n : ℕ) (v : View) (links : ℕ → Link) (top i : ℕ) (x : Link) → x.number ≡ Some v.next → (links i).number ≡ None → (top < i → ⊥) → Tied n v links top → Tied n (opened n v) (set links i x) top
tied-opened n v links top i x new fresh within t =
    record {
      apart = λ p q l a b. elim (cases_eq p i) [
        | inl at_p ↦ elim (cases_eq q i) [
          | inl at_q ↦ at_p ∙ sym at_q
          | inr off_q ↦ absurd (let e : l ≡ v.next = next p l at_p a in let f : l < v.next = t.drawn q l (sym (ap (λ (y : Link). y.number) (set-off links i x q off_q)) ∙ b) in omega arith)
        ]
        | inr off_p ↦ elim (cases_eq q i) [
          | inl at_q ↦ absurd (let e : l ≡ v.next = next q l at_q b in let f : l < v.next = t.drawn p l (sym (ap (λ (y : Link). y.number) (set-off links i x p off_p)) ∙ a) in omega arith)
          | inr off_q ↦ t.apart p q l (sym (ap (λ (y : Link). y.number) (set-off links i x p off_p)) ∙ a) (sym (ap (λ (y : Link). y.number) (set-off links i x q off_q)) ∙ b)
        ]
      ];
      drawn = λ p l a. elim (cases_eq p i) [
        | inl at_p ↦ let e : l ≡ v.next = next p l at_p a in omega arith
        | inr off_p ↦ let f : l < v.next = t.drawn p l (sym (ap (λ (y : Link). y.number) (set-off links i x p off_p)) ∙ a) in omega arith
      ];
      here = λ l. cond_both (nat_eq l v.next) (Some v.next) (v.holder l) (λ o. o ≡ Some n → (p : ℕ) × ((set links i x p).number ≡ Some l))
          (λ e m. absurd (let f : v.next ≡ n = cc in let less = t.there in omega arith))
          (λ e m. let p = t.here l m in (p.0, ap (λ (y : Link). y.number) (set-off links i x p.0 (λ at_p. absurd (let f : None ≡ Some l = sym fresh ∙ ap (λ k. (links k).number) (sym at_p) ∙ p.1 in cc))) ∙ p.1));
      there = let less = t.there in omega arith;
      later = λ j more. elim (cases_eq j i) [
        | inl at_j ↦ absurd (within (omega arith))
        | inr off_j ↦ ap (λ (y : Link). y.number) (set-off links i x j off_j) ∙ t.later j more
      ];
    }
  where
    next : (p l : ℕ) → p ≡ i → (set links i x p).number ≡ Some l → l ≡ v.next
    next p l at_p a = let e : Some l ≡ Some v.next = sym a ∙ ap (λ (y : Link). y.number) (set-at links i x p at_p) ∙ new in cc

within-top : (t : List ℕ) (s : Scene) (i : ℕ) (r : Request) → Held t s → (s.links i).slot ≡ Coming r → s.top < i → ⊥
within-top t s i r h coming more = let e : Coming r ≡ Idle = sym coming ∙ (h.later i more).1 in cc

open-miss : {W : Type 0} {Sound : W → Type 0} (s : Server W Sound) (n : ℕ) (w0 : W) (ex : Option Answer) (run : Run W) (i : ℕ) (a : Answer)
    → (run.links i).number ≡ None → (run.links i).slot ≡ Coming Opens → HeldRun s n w0 ex run
    → HeldRun s n w0 ex (with_link run i (with_slot (run.links i) (Going Opens a)))
open-miss s n w0 ex run i a fresh coming h =
    let x : Link = with_slot (run.links i) (Going Opens a) in
    let own : ℕ → Own = λ j. own_of n (view_of s n run).holder (run.links j).number in
    link-held s n w0 ex run i x refl h.stands h.tied
    (opens-link (s.token n) (scene_of n run (view_of s n run) (effective s.machine n w0 run.history) ex) own i a x h.held coming (ap (own_of n (view_of s n run).holder) fresh) refl refl
    (λ m. absurd (let e : Fresh ≡ Mine = sym (ap (own_of n (view_of s n run).holder) fresh) ∙ m in cc)) (λ j other. refl))

opened-held : {W : Type 0} {Sound : W → Type 0} (s : Server W Sound) (n : ℕ) (w0 : W) (ex : Option Answer) (run : Run W) (i : ℕ) (e : Entry)
    → s.is_legal run.world e ≡ true
    → (run.links i).number ≡ None → (run.links i).slot ≡ Coming Opens
    → s.view (s.after run.world e) n ≡ opened n (view_of s n run)
    → picked_of s.machine n run.world e ≡ []
    → HeldRun s n w0 ex run
    → HeldRun s n w0 ex (opens_by (tells s.machine run e) i (Opened (view_of s n run).next))
opened-held s n w0 ex run i e legal fresh coming left none h =
    record {
      stands = record { sound = h1.stands.sound; is = h1.stands.is };
      tied = subst (λ y. Tied n y (set run.links i x) run.top) (sym left) (tied-opened n v run.links run.top i x refl fresh (within-top (s.token n) (scene_of n run v (effective s.machine n w0 run.history) ex) i Opens h.held coming) h.tied);
      held = opens-link (s.token n) (scene_of n (tells s.machine run e) v' (effective s.machine n w0 (run.history ++ e ∷ [])) ex) (λ j. own_of n v'.holder (set run.links i x j).number) i (Fine []) x h1.held coming (ap (own_of n v'.holder) fresh) refl refl
          (λ m. let mine = own-mine n v'.holder (set run.links i x i).number m in
          absurd (let e : Some mine.0 ≡ Some v.next = sym mine.1 ∙ ap (λ (y : Link). y.number) (set-at run.links i x i refl) in
          let f : mine.0 ≡ v.next = cc in
          let g : Some v.next ≡ Some n = sym (ap (λ (y : View). y.holder v.next) left ∙ set-at v.holder v.next (Some v.next) v.next refl) ∙ ap v'.holder (sym f) ∙ mine.2 in
          let k : v.next ≡ n = cc in
          let less = h.tied.there in omega arith))
          (λ j other. ap (λ (y : Link). own_of n v'.holder y.number) (set-off run.links i x j other));
    }
  where
    v : View
    v = view_of s n run

    v' : View
    v' = s.view (s.after run.world e) n

    x : Link
    x = record { number = Some v.next; ended = (run.links i).ended; slot = Going Opens (Fine []); got = (run.links i).got }

    h1 : HeldRun s n w0 ex (tells s.machine run e)
    h1 = tells-held s n w0 ex run e v.next legal (passes-to n v (opened n v) v' v.next left (passes-opened n v v.next (λ same. absurd (let less = h.tied.there in omega arith)))) (not-next n v run.links run.top h.tied) none h

opens-held : {W : Type 0} {Sound : W → Type 0} (s : Server W Sound) (n : ℕ) (w0 : W) (ex : Option Answer) (run : Run W) (i moment : ℕ) (memory : Bool)
    → (run.links i).number ≡ None → (run.links i).slot ≡ Coming Opens → HeldRun s n w0 ex run
    → HeldRun s n w0 ex (opens s.machine run i moment memory)
opens-held s n w0 ex run i moment memory fresh coming h =
    cond_both memory (with_link run i (with_slot (run.links i) (Going Opens NoMemory))) (opens_told s.machine run i (entry 0 moment Open Ran)) (HeldRun s n w0 ex)
    (λ e. open-miss s n w0 ex run i NoMemory fresh coming h)
    (λ e. by (s.answers run.world n (entry 0 moment Open Ran) h.stands.sound (s.ran_is_legal run.world 0 moment Open (omega arith))))
  where
    e : Entry
    e = entry 0 moment Open Ran

    v : View
    v = view_of s n run

    by : ((s.told run.world e ≡ Opened v.next) × (s.view (s.after run.world e) n ≡ opened n v)) ⊎ ((a : Answer) × (s.told run.world e ≡ Reply a false) × (is_fine a ≡ false) × (s.view (s.after run.world e) n ≡ v)) → HeldRun s n w0 ex (opens_told s.machine run i e)
    by (inl (told, left)) = subst (λ t. HeldRun s n w0 ex (opens_by (tells s.machine run e) i t)) (sym told) (opened-held s n w0 ex run i e (s.ran_is_legal run.world 0 moment Open (omega arith)) fresh coming left refl h)
    by (inr (a, told, bad, left)) = subst (λ t. HeldRun s n w0 ex (opens_by (tells s.machine run e) i t)) (sym told) (open-miss s n w0 ex (tells s.machine run e) i a fresh coming (same-held s n w0 ex run e (s.ran_is_legal run.world 0 moment Open (omega arith)) left refl h))

arrives-held : {W : Type 0} {Sound : W → Type 0} (s : Server W Sound) (n : ℕ) (w0 : W) (ex : Option Answer) (run : Run W) (i moment : ℕ) (wish : Wish) (number : Option ℕ) (slot : Slot)
    → (run.links i).number ≡ number → (run.links i).slot ≡ slot → (wish.memory ≡ true → is_again slot ≡ false) → run.client.row < 1900 → HeldRun s n w0 ex run
    → Holds s n w0 (arrives s.machine run i moment wish number slot)
arrives-held s n w0 ex run i moment wish None Idle fresh coming first less h = (ex, h)
arrives-held s n w0 ex run i moment wish (Some link) Idle fresh coming first less h = (ex, h)
arrives-held s n w0 ex run i moment wish None (Going r a) fresh coming first less h = (ex, h)
arrives-held s n w0 ex run i moment wish (Some link) (Going r a) fresh coming first less h = (ex, h)
arrives-held s n w0 ex run i moment wish None (Coming Opens) fresh coming first less h = (
  ex,
  cond_both wish.no_sweep run (tells s.machine run (entry 0 moment Pulse Ran)) (λ r. HeldRun s n w0 ex (opens s.machine r i moment wish.memory))
      (λ e. opens-held s n w0 ex run i moment wish.memory fresh coming h)
      (λ e. opens-held s n w0 ex (tells s.machine run (entry 0 moment Pulse Ran)) i moment wish.memory fresh coming (parting-held s n w0 ex run 0 moment Pulse tt (omega arith) h)),
)
arrives-held s n w0 ex run i moment wish (Some link) (Coming Opens) fresh coming first less h = (ex, drops-held s n w0 ex run i h)
arrives-held s n w0 ex run i moment wish None (Coming (Asks id body again)) fresh coming first less h = (ex, drops-held s n w0 ex run i h)
arrives-held s n w0 ex run i moment wish (Some link) (Coming (Asks id body again)) number coming first less h = calls-held s n w0 ex run i link moment wish id body again first number coming less h

to-server-held : {W : Type 0} {Sound : W → Type 0} (s : Server W Sound) (n : ℕ) (w0 : W) (ex : Option Answer) (run : Run W) (i moment : ℕ) (wish : Wish) (ended : Bool)
    → (run.links i).ended ≡ ended → (wish.memory ≡ true → (run.links i).ended ≡ false → is_again (run.links i).slot ≡ false) → run.client.row < 1900 → HeldRun s n w0 ex run
    → Holds s n w0 (to_server s.machine run i moment wish ended)
to-server-held s n w0 ex run i moment wish true is first less h = (ex, h)
to-server-held s n w0 ex run i moment wish false is first less h = arrives-held s n w0 ex run i moment wish (run.links i).number (run.links i).slot refl refl (λ e. first e is) less h

-- ---- the client

client-held : {W : Type 0} {Sound : W → Type 0} (s : Server W Sound) (n : ℕ) (w0 : W) (ex : Option Answer) (run : Run W) (c : Client) (x : Slot)
    → Stands s w0 run → Tied n (view_of s n run) run.links run.top
    → Held (s.token n) (record { top = run.top; own = λ j. own_of n (view_of s n run).holder (run.links j).number; links = set run.links run.top (with_slot (run.links run.top) x); client = c; alive = (view_of s n run).alive; cache = (view_of s n run).cache; done = effective s.machine n w0 run.history; extra = ex })
    → HeldRun s n w0 ex (with_client run c x)
client-held s n w0 ex run c x st tied h =
    let link : Link = with_slot (run.links run.top) x in
    record {
      stands = record { sound = st.sound; is = st.is };
      tied = tied-same n (view_of s n run) run.links (set run.links run.top link) run.top (set-number run.links run.top link refl) tied;
      held = rescene (s.token n)
          (record { top = run.top; own = λ j. own_of n (view_of s n run).holder (run.links j).number; links = set run.links run.top link; client = c; alive = (view_of s n run).alive; cache = (view_of s n run).cache; done = effective s.machine n w0 run.history; extra = ex })
          (λ j. own_of n (view_of s n run).holder (set run.links run.top link j).number) (view_of s n run).alive (view_of s n run).cache (effective s.machine n w0 run.history)
          (λ j. ap (own_of n (view_of s n run).holder) (sym (set-number run.links run.top link refl j))) refl refl refl h;
    }

abbrev sc : {W : Type 0} {Sound : W → Type 0} → Server W Sound → ℕ → W → Option Answer → Run W → Scene
sc s n w0 ex run = scene_of n run (view_of s n run) (effective s.machine n w0 run.history) ex

commands-held : {W : Type 0} {Sound : W → Type 0} (s : Server W Sound) (n : ℕ) (w0 : W) (ex : Option Answer) (run : Run W) (stage : Stage) (wait : Option Wait) (call : Call)
    → run.client.stage ≡ stage → run.client.wait ≡ wait → HeldRun s n w0 ex run → Holds s n w0 (commands run stage wait call)
commands-held s n w0 ex run Ready None call ready none h = (None, client-held s n w0 None run (draws run.client call 0 run.client.row run.client.results) (Coming (Asks (id_of run.client.first run.client.drawn) (Does call) false)) h.stands h.tied (asks (s.token n) (sc s n w0 ex run) call h.held ready none))
commands-held s n w0 ex run Ready (Some w) call ready waits h = (ex, h)
commands-held s n w0 ex run Opening wait call ready waits h = (ex, h)
commands-held s n w0 ex run Entering wait call ready waits h = (ex, h)
commands-held s n w0 ex run Joining wait call ready waits h = (ex, h)
commands-held s n w0 ex run Gone wait call ready waits h = (ex, h)

moves-held : {W : Type 0} {Sound : W → Type 0} (s : Server W Sound) (n : ℕ) (w0 : W) (ex : Option Answer) (run : Run W) (stage : Stage) (tries id : ℕ) (x : Slot)
    → ComingOk (s.token n) run.client.wait (own_of n (view_of s n run).holder (run.links run.top).number) (run.links run.top).got x
    → StageOk (s.token n) stage run.client.wait ex (run.links run.top).got x
    → HeldRun s n w0 ex run
    → HeldRun s n w0 ex (with_client run (record { stage = stage; tries = tries; opening_id = id; token = run.client.token; first = run.client.first; drawn = run.client.drawn; wait = run.client.wait; results = run.client.results; row = run.client.row }) x)
moves-held s n w0 ex run stage tries id x coming ok h =
    client-held s n w0 ex run (record { stage = stage; tries = tries; opening_id = id; token = run.client.token; first = run.client.first; drawn = run.client.drawn; wait = run.client.wait; results = run.client.results; row = run.client.row }) x h.stands h.tied
    (opening-moves (s.token n) (sc s n w0 ex run) stage tries id x h.held coming ok)

gone-held : {W : Type 0} {Sound : W → Type 0} (s : Server W Sound) (n : ℕ) (w0 : W) (ex : Option Answer) (run : Run W) → HeldRun s n w0 ex run → HeldRun s n w0 ex (with_client run (in_stage run.client Gone) Idle)
gone-held s n w0 ex run h = moves-held s n w0 ex run Gone 0 run.client.opening_id Idle tt tt h

steps-on-held : {W : Type 0} {Sound : W → Type 0} (s : Server W Sound) (n : ℕ) (w0 : W) (ex : Option Answer) (run : Run W) (r : Request) (stage : Stage) (token : Option (List ℕ)) (b : List ℕ)
    → run.client.stage ≡ stage → run.client.token ≡ token → (run.links run.top).slot ≡ Going r (Fine b) → HeldRun s n w0 ex run → HeldRun s n w0 ex (steps_on run stage token b)
steps-on-held s n w0 ex run r Opening None b is has going h = moves-held s n w0 ex run Entering 0 (suc run.client.opening_id) (Coming (Asks (suc run.client.opening_id) Login false)) tt tt h
steps-on-held s n w0 ex run r Opening (Some t) b is has going h = moves-held s n w0 ex run Entering 0 (suc run.client.opening_id) (Coming (Asks (suc run.client.opening_id) Login false)) tt tt h
steps-on-held s n w0 ex run r Entering None b is has going h = absurd (let e : None ≡ Some (s.token n) = sym has ∙ h.held.token in cc)
steps-on-held s n w0 ex run r Entering (Some t) b is has going h =
    let e : Some t ≡ Some (s.token n) = sym has ∙ h.held.token in
    let same : t ≡ s.token n = cc in
    moves-held s n w0 ex run Joining 0 (suc run.client.opening_id) (Coming (Asks (suc run.client.opening_id) (Rejoin t) false)) same (ap (λ x. Rejoin x) same) h
steps-on-held s n w0 ex run r Joining None b is has going h = absurd (let e : None ≡ Some (s.token n) = sym has ∙ h.held.token in cc)
steps-on-held s n w0 ex run r Joining (Some t) b is has going h = client-held s n w0 ex run (in_stage run.client Ready) (again run.client.wait) h.stands h.tied (readies (s.token n) (sc s n w0 ex run) r b h.held is going)
steps-on-held s n w0 ex run r Ready None b is has going h = h
steps-on-held s n w0 ex run r Ready (Some t) b is has going h = h
steps-on-held s n w0 ex run r Gone None b is has going h = h
steps-on-held s n w0 ex run r Gone (Some t) b is has going h = h

-- the same request of the opening, under the next id
same-coming : (t : List ℕ) (c : Client) (stage : Stage) (wait : Option Wait) (own : Own) (got : Bool) → c.token ≡ Some t → ComingOk t wait own got (Coming (same_request c stage))
same-coming t c Opening wait own got has = tt
same-coming t c Entering wait own got has = tt
same-coming t c Joining wait own got has = subst (λ x. ComingOk t wait own got (Coming (Asks (suc c.opening_id) (last_body x) false))) (sym has) refl
same-coming t c Ready wait own got has = tt
same-coming t c Gone wait own got has = tt

same-stage : (t : List ℕ) (c : Client) (stage : Stage) (wait : Option Wait) (ex : Option Answer) (got : Bool) → (stage ≡ Ready → ⊥) → c.token ≡ Some t → StageOk t stage wait ex got (Coming (same_request c stage))
same-stage t c Opening wait ex got other has = tt
same-stage t c Entering wait ex got other has = tt
same-stage t c Joining wait ex got other has = ap last_body has
same-stage t c Ready wait ex got other has = absurd (other refl)
same-stage t c Gone wait ex got other has = tt

takes-step-held : {W : Type 0} {Sound : W → Type 0} (s : Server W Sound) (n : ℕ) (w0 : W) (ex : Option Answer) (run : Run W) (r : Request) (a : Answer)
    → (run.client.stage ≡ Ready → ⊥) → (run.links run.top).slot ≡ Going r a → HeldRun s n w0 ex run → HeldRun s n w0 ex (takes_step run a)
takes-step-held s n w0 ex run r (Fine b) other going h = steps-on-held s n w0 ex run r run.client.stage run.client.token b refl refl going h
takes-step-held s n w0 ex run r NoMemory other going h =
    cond_both (nat_lt run.client.tries 3) (with_client run (opens_with run.client run.client.stage (suc run.client.tries)) (Coming (same_request run.client run.client.stage))) (with_client run (in_stage run.client Gone) Idle) (HeldRun s n w0 ex)
    (λ e. moves-held s n w0 ex run run.client.stage (suc run.client.tries) (suc run.client.opening_id) (Coming (same_request run.client run.client.stage))
    (same-coming (s.token n) run.client run.client.stage run.client.wait (own_of n (view_of s n run).holder (run.links run.top).number) (run.links run.top).got h.held.token)
    (same-stage (s.token n) run.client run.client.stage run.client.wait ex (run.links run.top).got other h.held.token) h)
    (λ e. gone-held s n w0 ex run h)
takes-step-held s n w0 ex run r MiscErr other going h = gone-held s n w0 ex run h
takes-step-held s n w0 ex run r (Refuses code block) other going h = gone-held s n w0 ex run h

result-held : {W : Type 0} {Sound : W → Type 0} (s : Server W Sound) (n : ℕ) (w0 : W) (ex : Option Answer) (run : Run W) (w : Wait) (r : Request) (a : Answer)
    → run.client.stage ≡ Ready → run.client.wait ≡ Some w → (run.links run.top).slot ≡ Going r a → HeldRun s n w0 ex run → Holds s n w0 (with_client run (with_result run.client w a) Idle)
result-held s n w0 ex run w r a ready waits going h = (None, client-held s n w0 None run (with_result run.client w a) Idle h.stands h.tied (results (s.token n) (sc s n w0 ex run) w r a h.held ready waits going))

takes-reply-held : {W : Type 0} {Sound : W → Type 0} (s : Server W Sound) (n : ℕ) (w0 : W) (ex : Option Answer) (run : Run W) (w : Wait) (r : Request) (a : Answer)
    → run.client.stage ≡ Ready → run.client.wait ≡ Some w → (run.links run.top).slot ≡ Going r a → HeldRun s n w0 ex run → Holds s n w0 (takes_reply run w a)
takes-reply-held s n w0 ex run w r (Fine b) ready waits going h = result-held s n w0 ex run w r (Fine b) ready waits going h
takes-reply-held s n w0 ex run w r MiscErr ready waits going h = result-held s n w0 ex run w r MiscErr ready waits going h
takes-reply-held s n w0 ex run w r (Refuses code block) ready waits going h = result-held s n w0 ex run w r (Refuses code block) ready waits going h
takes-reply-held s n w0 ex run w r NoMemory ready waits going h =
    cond_both (nat_lt w.tries 3) (with_client run (sent_again run.client w) (Coming (Asks (id_of run.client.first run.client.drawn) (Does w.call) false))) (with_client run (with_result run.client w NoMemory) Idle) (Holds s n w0)
    (λ e. (None, client-held s n w0 None run (sent_again run.client w) (Coming (Asks (id_of run.client.first run.client.drawn) (Does w.call) false)) h.stands h.tied (retries (s.token n) (sc s n w0 ex run) w r h.held ready waits going)))
    (λ e. result-held s n w0 ex run w r NoMemory ready waits going h)

takes-for-held : {W : Type 0} {Sound : W → Type 0} (s : Server W Sound) (n : ℕ) (w0 : W) (ex : Option Answer) (run : Run W) (wait : Option Wait) (r : Request) (a : Answer)
    → run.client.stage ≡ Ready → run.client.wait ≡ wait → (run.links run.top).slot ≡ Going r a → HeldRun s n w0 ex run → Holds s n w0 (takes_for run wait r a)
takes-for-held s n w0 ex run None r a ready waits going h = (ex, h)
takes-for-held s n w0 ex run (Some w) Opens a ready waits going h = (ex, h)
takes-for-held s n w0 ex run (Some w) (Asks id body again) a ready waits going h =
    cond_both (nat_eq id w.id) (takes_reply run w a) run (Holds s n w0) (λ e. takes-reply-held s n w0 ex run w (Asks id body again) a ready waits going h) (λ e. (ex, h))

takes-held : {W : Type 0} {Sound : W → Type 0} (s : Server W Sound) (n : ℕ) (w0 : W) (ex : Option Answer) (run : Run W) (stage : Stage) (r : Request) (a : Answer)
    → run.client.stage ≡ stage → (run.links run.top).slot ≡ Going r a → HeldRun s n w0 ex run → Holds s n w0 (takes run stage r a)
takes-held s n w0 ex run Opening r a is going h = (ex, takes-step-held s n w0 ex run r a (λ ready. absurd (let e : Opening ≡ Ready = sym is ∙ ready in cc)) going h)
takes-held s n w0 ex run Entering r a is going h = (ex, takes-step-held s n w0 ex run r a (λ ready. absurd (let e : Entering ≡ Ready = sym is ∙ ready in cc)) going h)
takes-held s n w0 ex run Joining r a is going h = (ex, takes-step-held s n w0 ex run r a (λ ready. absurd (let e : Joining ≡ Ready = sym is ∙ ready in cc)) going h)
takes-held s n w0 ex run Ready r a is going h = takes-for-held s n w0 ex run run.client.wait r a is refl going h
takes-held s n w0 ex run Gone r a is going h = (ex, h)

to-client-held : {W : Type 0} {Sound : W → Type 0} (s : Server W Sound) (n : ℕ) (w0 : W) (ex : Option Answer) (run : Run W) (slot : Slot)
    → (run.links run.top).slot ≡ slot → HeldRun s n w0 ex run → Holds s n w0 (to_client run slot)
to-client-held s n w0 ex run Idle is h = (ex, h)
to-client-held s n w0 ex run (Coming r) is h = (ex, h)
to-client-held s n w0 ex run (Going r a) is h = takes-held s n w0 ex run run.client.stage r a refl is h

anew-stage : (t : List ℕ) (stage : Stage) (wait : Option Wait) (ex : Option Answer) → StageOk t (stage_anew stage) wait ex false (Coming Opens)
anew-stage t Opening wait ex = tt
anew-stage t Entering wait ex = tt
anew-stage t Joining wait ex = tt
anew-stage t Ready wait ex = tt
anew-stage t Gone wait ex = tt

breaks-held : {W : Type 0} {Sound : W → Type 0} (s : Server W Sound) (n : ℕ) (w0 : W) (ex : Option Answer) (run : Run W) → HeldRun s n w0 ex run → HeldRun s n w0 ex (breaks run)
breaks-held s n w0 ex run h =
    record {
      stands = record { sound = h.stands.sound; is = h.stands.is };
      tied =
          let t : Tied n v (set run.links (suc run.top) x) run.top = tied-same n v run.links (set run.links (suc run.top) x) run.top same h.tied in
          record { apart = t.apart; drawn = t.drawn; here = t.here; there = t.there; later = λ j more. t.later j (omega arith) };
      held = begins-link (s.token n) (sc s n w0 ex run) (λ j. own_of n v.holder (set run.links (suc run.top) x j).number) (stage_anew run.client.stage) h.held
          (λ j other. ap (λ (y : Link). own_of n v.holder y.number) (set-off run.links (suc run.top) x j other))
          (ap (λ (y : Link). own_of n v.holder y.number) (set-at run.links (suc run.top) x (suc run.top) refl))
          (anew-stage (s.token n) run.client.stage run.client.wait ex);
    }
  where
    v : View
    v = view_of s n run

    x : Link
    x = with_slot blank (Coming Opens)

    same : (j : ℕ) → (set run.links (suc run.top) x j).number ≡ (run.links j).number
    same j = set-number run.links (suc run.top) x (sym (h.tied.later (suc run.top) (omega arith))) j

-- ---- every event

pub step-held : {W : Type 0} {Sound : W → Type 0} (s : Server W Sound) (n : ℕ) (w0 : W) (ex : Option Answer) (run : Run W) (e : Event) → Allowed s.machine n run e → run.client.row < 1900 → HeldRun s n w0 ex run → Holds s n w0 (step s.machine run e)
step-held s n w0 ex run (Commands call) ok less h = commands-held s n w0 ex run run.client.stage run.client.wait call refl refl h
step-held s n w0 ex run (ToServer i moment wish) ok less h = to-server-held s n w0 ex run i moment wish (run.links i).ended refl ok less h
step-held s n w0 ex run ToClient ok less h = to-client-held s n w0 ex run (run.links run.top).slot refl h
step-held s n w0 ex run (Quiet i moment wish) ok less h = (ex, quiet-held s n w0 ex run i moment wish (run.links i).ended (run.links i).number (λ l is. held-within s n w0 ex run i l h is) h)
step-held s n w0 ex run (Loses i moment wish) ok less h = (ex, parts-held s n w0 ex run i moment wish Lost (run.links i).ended (run.links i).number tt (λ l is. held-within s n w0 ex run i l h is) h)
step-held s n w0 ex run (Drains i moment wish) ok less h = (ex, parts-held s n w0 ex run i moment wish Bye (run.links i).ended (run.links i).number tt (λ l is. held-within s n w0 ex run i l h is) h)
step-held s n w0 ex run (Ends i) ok less h = (ex, ends-held s n w0 ex run i h)
step-held s n w0 ex run Breaks ok less h = (ex, breaks-held s n w0 ex run h)
step-held s n w0 ex run (Others e) ok less h = (ex, others-held s n w0 ex run e ok h)
