-- Every event before the client holds a token, and the event by which it does.
use Rattle.std.proofs.Common.{◌≡◌, ◌≢◌, ◌∙◌, ◌⊎◌, inl, inr, refl, sym, ap, subst, ℕ, suc, ◌<◌, ◌≤◌, Bool, true, false, cond, List, [], ◌++◌, length, Option, Some, None, arith}
use Rattle.std.specs.Prelude.{nat_eq, nat_lt, ◌&&◌, ◌||◌}
use Rattle.std.proofs.lemmas.Bool.{cond_both, eqb-true, eq-eqb, ne_eqb, false≢true, cases_eq, cases_lt, cond-true, cond-false, and_parts}
use Rattle.once_across_breaks.specs.once.Messages.{token_in}
use Rattle.once_across_breaks.specs.once.Messages.{Call, Body, Login, Token, Rejoin, Does, Answer, Fine, MiscErr, NoMemory, Refuses, is_fine, Done, kept, Kept}
use Rattle.once_across_breaks.specs.once.Server.{set, Ask, Open, Calls, Pulse, Bye, Lost, Told, Opened, Reply, Live as Alive, Parted, Displaced, Outcome, Ran, Fault, Entry, entry, View, opened, Answers, AskLaw, Server, numbers_end}
use Rattle.once_across_breaks.specs.once.Run.{Request, Opens, Asks, Slot, Idle, Coming, Going, Link, blank, Stage, Opening, Entering, Joining, Ready, Gone, Wait, Client, Run, Wish, with_slot, with_link, tells, ends_link, drops, replies, chosen, calls_by, calls, opens_by, opens_told, opens, arrives, to_server, quiet_by, quiet_told, quiet, parts, comes, token_told}
use Rattle.once_across_breaks.specs.once.Once.{effective}
use Rattle.once_across_breaks.proofs.OfOnce.Scene.{Own, Mine, Other, IsTaken, is_command, ComingOk, LinkOk, ReadySlot, Fits, Work, outstanding}
use Rattle.once_across_breaks.proofs.OfOnce.Steps.{upd}
use Rattle.once_across_breaks.proofs.OfOnce.Ends.{joins}
use Rattle.once_across_breaks.proofs.OfOnce.Tied.{picked_of, who, own_of, own-mine}
use Rattle.once_across_breaks.specs.once.Run.{with_client, commands, opens_with, in_stage, holding, last_body, again, same_request, steps_on, takes_step, takes, to_client, stage_anew, breaks, Event, Commands, ToServer, ToClient, Quiet, Loses, Drains, Ends, Breaks, Others, step}
use Rattle.once_across_breaks.specs.once.Once.{Allowed}
use Rattle.once_across_breaks.proofs.OfOnce.Runs.{Stands, view_of, HeldRun, stands-more, effective-none, set-number, none-picked, not-some, IsParting}
use Rattle.once_across_breaks.proofs.OfOnce.Arrivals.{Holds}
use Rattle.once_across_breaks.proofs.OfOnce.Events.{set-at, set-off}
use Rattle.once_across_breaks.proofs.OfOnce.Early.{goes-opened, goes-to, EarlySlot, TokenSlot, EarlyStage, Origin, undrawn, ours, foreign, Numbers, EarlyLink, EarlyRun, early-link, early-others, early-parting, early-same, undrawn-far, early-within}

-- ---- a link changes, and keeps its number

origin-links : (n : ℕ) (v : View) (links links' : ℕ → Link) (done : List Done) → ((j : ℕ) → (links' j).number ≡ (links j).number) → Origin n v links done → Origin n v links' done
origin-links n v links links' done same (undrawn before empty) = undrawn before empty
origin-links n v links links' done same (ours j is back empty nothing there) = ours j (same j ∙ is) back empty nothing there
origin-links n v links links' done same (foreign there others) = foreign there (λ j is. others j (sym (same j) ∙ is))

numbers-links : (next : ℕ) (links : ℕ → Link) (top i : ℕ) (x : Link) → x.number ≡ (links i).number → ((links i).slot ≡ Idle → x.slot ≡ Idle) ⊎ (i ≡ top) → Numbers next links top → Numbers next (set links i x) top
numbers-links next links top i x same idle t =
    record {
      apart = λ a b l p q. t.apart a b l (sym (set-number links i x same a) ∙ p) (sym (set-number links i x same b) ∙ q);
      drawn = λ a l p. t.drawn a l (sym (set-number links i x same a) ∙ p);
      later = λ j more. (set-number links i x same j ∙ (t.later j more).0, upd links i x (λ k l. top < k → l.slot ≡ Idle) (here idle) (λ k other less. (t.later k less).1) j more);
    }
  where
    here : ((links i).slot ≡ Idle → x.slot ≡ Idle) ⊎ (i ≡ top) → top < i → x.slot ≡ Idle
    here (inl keeps) less = keeps (t.later i less).1
    here (inr same) less = absurd (omega arith)

early-set : {W : Type 0} {Sound : W → Type 0} (s : Server W Sound) (n : ℕ) (w0 : W) (run : Run W) (i : ℕ) (x : Link)
    → x.number ≡ (run.links i).number
    → ((run.links i).slot ≡ Idle → x.slot ≡ Idle)
    → EarlyLink s.token (view_of s n run) x
    → (i ≡ run.top → EarlyStage run.client.stage x.slot)
    → EarlyRun s n w0 run → EarlyRun s n w0 (with_link run i x)
early-set s n w0 run i x same idle link stage h =
    record {
      small = h.small;
      stands = record { sound = h.stands.sound; is = h.stands.is };
      token = h.token;
      wait = h.wait;
      results = h.results;
      stage = upd run.links i x (λ k l. k ≡ run.top → EarlyStage run.client.stage l.slot) stage (λ k other e. subst (λ m. EarlyStage run.client.stage (run.links m).slot) (sym e) h.stage) run.top refl;
      numbers = numbers-links (view_of s n run).next run.links run.top i x same (inl idle) h.numbers;
      each = upd run.links i x (λ k l. EarlyLink s.token (view_of s n run) l) link (λ k other. h.each k);
      origin = origin-links n (view_of s n run) run.links (set run.links i x) (effective s.machine n w0 run.history) (set-number run.links i x same) h.origin;
    }

idle-early : (stage : Stage) (slot : Slot) → EarlyStage stage slot → EarlyStage stage Idle
idle-early Opening slot ok = tt
idle-early Entering slot ok = tt
idle-early Joining slot ok = tt
idle-early Ready slot ok = ok
idle-early Gone slot ok = tt

stage-of : {W : Type 0} {Sound : W → Type 0} (s : Server W Sound) (n : ℕ) (w0 : W) (run : Run W) (i : ℕ) (slot : Slot) → EarlyRun s n w0 run → (run.links i).slot ≡ slot → i ≡ run.top → EarlyStage run.client.stage slot
stage-of s n w0 run i slot h is e = subst (λ sl. EarlyStage run.client.stage sl) (ap (λ m. (run.links m).slot) (sym e) ∙ is) h.stage

early-drops : {W : Type 0} {Sound : W → Type 0} (s : Server W Sound) (n : ℕ) (w0 : W) (run : Run W) (i : ℕ) → EarlyRun s n w0 run → EarlyRun s n w0 (drops run i)
early-drops s n w0 run i h =
    early-set s n w0 run i (record { number = (run.links i).number; ended = true; slot = Idle; got = (run.links i).got }) refl (λ e. refl)
    (record { got = (h.each i).got; slot = tt; holds = (h.each i).holds })
    (λ e. idle-early run.client.stage (run.links i).slot (stage-of s n w0 run i (run.links i).slot h refl e)) h

early-ends : {W : Type 0} {Sound : W → Type 0} (s : Server W Sound) (n : ℕ) (w0 : W) (run : Run W) (i : ℕ) → EarlyRun s n w0 run → EarlyRun s n w0 (ends_link run i)
early-ends s n w0 run i h =
    early-set s n w0 run i (record { number = (run.links i).number; ended = true; slot = (run.links i).slot; got = (run.links i).got }) refl (λ e. e)
    (record { got = (h.each i).got; slot = (h.each i).slot; holds = (h.each i).holds })
    (λ e. stage-of s n w0 run i (run.links i).slot h refl e) h

-- ---- Login and GetSessionToken

abbrev pub IsFirst : Body → Type 0
IsFirst Login = Unit {0}
IsFirst Token = Unit {0}
IsFirst (Rejoin x) = ⊥
IsFirst (Does call) = ⊥

first-stage : (stage : Stage) (id : ℕ) (body : Body) (again : Bool) (a : Answer) → IsFirst body → EarlyStage stage (Coming (Asks id body again)) → EarlyStage stage (Going (Asks id body again) a)
first-stage Opening id body again a first ok = tt
first-stage Entering id body again a first ok = tt
first-stage Joining id Login again a first ok = ok
first-stage Joining id Token again a first ok = tt
first-stage Joining id (Rejoin x) again a first ok = absurd first
first-stage Joining id (Does call) again a first ok = absurd first
first-stage Ready id body again a first ok = ok
first-stage Gone id body again a first ok = tt

early-answer : {W : Type 0} {Sound : W → Type 0} (s : Server W Sound) (n : ℕ) (w0 : W) (run : Run W) (i id : ℕ) (body : Body) (again ends got : Bool) (a : Answer)
    → IsFirst body → (run.links i).slot ≡ Coming (Asks id body again)
    → got ≡ (run.links i).got
    → EarlySlot s.token (run.links i).number (Going (Asks id body again) a)
    → EarlyRun s n w0 run
    → EarlyRun s n w0 (with_link run i (record { number = (run.links i).number; ended = ends; slot = Going (Asks id body again) a; got = got }))
early-answer s n w0 run i id body again ends got a first coming same slot h =
    early-set s n w0 run i (record { number = (run.links i).number; ended = ends; slot = Going (Asks id body again) a; got = got }) refl
    (λ e. absurd (let f : Coming (Asks id body again) ≡ Idle = sym coming ∙ e in cc))
    (record { got = same ∙ (h.each i).got; slot = slot; holds = (h.each i).holds })
    (λ e. first-stage run.client.stage id body again a first (stage-of s n w0 run i (Coming (Asks id body again)) h coming e)) h

early-or : (b : Bool) → (b || false) ≡ b
early-or true = refl
early-or false = refl

early-reply : {W : Type 0} {Sound : W → Type 0} (s : Server W Sound) (n : ℕ) (w0 : W) (run : Run W) (i id : ℕ) (body : Body) (again : Bool) (e : Entry) (a : Answer)
    → s.is_legal run.world e ≡ true → IsFirst body → comes body a ≡ false → picked_of s.machine n run.world e ≡ []
    → (run.links i).slot ≡ Coming (Asks id body again)
    → EarlySlot s.token (run.links i).number (Going (Asks id body again) a)
    → Answers (view_of s n run) (s.told run.world e) (s.view (s.after run.world e) n) a
    → EarlyRun s n w0 run → EarlyRun s n w0 (calls_by s.machine run i id body again e)
early-reply s n w0 run i id body again e a legal first stays none coming slot law h =
    subst (λ t. EarlyRun s n w0 (replies (tells s.machine run e) i id body again t)) (sym law.told)
    (early-answer s n w0 (tells s.machine run e) i id body again false ((run.links i).got || comes body a) a first coming (ap (λ b. (run.links i).got || b) stays ∙ early-or (run.links i).got) slot (early-same s n w0 run e legal law.left none h))

early-called : {W : Type 0} {Sound : W → Type 0} (s : Server W Sound) (n : ℕ) (w0 : W) (run : Run W) (i l moment id : ℕ) (body : Body) (again : Bool) (o : Outcome) (holder : Option ℕ)
    → s.is_legal run.world (entry l moment (Calls id body) o) ≡ true → (run.links i).number ≡ Some l → (run.links i).slot ≡ Coming (Asks id body again)
    → (view_of s n run).holder l ≡ holder
    → AskLaw s.token n (view_of s n run) l holder (Calls id body) o (s.told run.world (entry l moment (Calls id body) o)) (s.view (s.after run.world (entry l moment (Calls id body) o)) n)
    → EarlyRun s n w0 run → EarlyRun s n w0 (calls_by s.machine run i id body again (entry l moment (Calls id body) o))
early-called s n w0 run i l moment id body again o None legal number coming is (told, left) h =
    let e : Entry = entry l moment (Calls id body) o in
    subst (λ t. EarlyRun s n w0 (replies (tells s.machine run e) i id body again t)) (sym told)
    (early-drops s n w0 (tells s.machine run e) i (early-same s n w0 run e legal left (none-picked n (view_of s n run) l id body o (s.told run.world e) (not-some n ((view_of s n run).holder l) (λ f. absurd (let g : None ≡ Some n = sym is ∙ f in cc)))) h))
early-called s n w0 run i l moment id Login again o (Some k) legal number coming is (a, law) h =
    early-reply s n w0 run i id Login again (entry l moment (Calls id Login) o) a legal tt refl refl coming tt law h
early-called s n w0 run i l moment id Token again o (Some k) legal number coming is (a, law, tells) h =
    early-reply s n w0 run i id Token again (entry l moment (Calls id Token) o) a legal tt refl refl coming (λ b f. (l, number, tells b f ∙ ap (λ j. Some (s.token j)) ((h.each i).holds l k number is))) law h
early-called s n w0 run i l moment id (Rejoin x) again o (Some k) legal number coming is law h = absurd (subst (λ sl. EarlySlot s.token (run.links i).number sl) coming (h.each i).slot)
early-called s n w0 run i l moment id (Does call) again o (Some k) legal number coming is law h = absurd (subst (λ sl. EarlySlot s.token (run.links i).number sl) coming (h.each i).slot)

early-memory : {W : Type 0} {Sound : W → Type 0} (s : Server W Sound) (n : ℕ) (w0 : W) (run : Run W) (i id : ℕ) (body : Body) (again : Bool)
    → (run.links i).slot ≡ Coming (Asks id body again) → EarlyRun s n w0 run
    → EarlyRun s n w0 (with_link run i (with_slot (run.links i) (Going (Asks id body again) NoMemory)))
early-memory s n w0 run i id Login again coming h = early-answer s n w0 run i id Login again (run.links i).ended (run.links i).got NoMemory tt coming refl tt h
early-memory s n w0 run i id Token again coming h = early-answer s n w0 run i id Token again (run.links i).ended (run.links i).got NoMemory tt coming refl (λ b f. absurd (cc)) h
early-memory s n w0 run i id (Rejoin x) again coming h = absurd (subst (λ sl. EarlySlot s.token (run.links i).number sl) coming (h.each i).slot)
early-memory s n w0 run i id (Does call) again coming h = absurd (subst (λ sl. EarlySlot s.token (run.links i).number sl) coming (h.each i).slot)

early-calls : {W : Type 0} {Sound : W → Type 0} (s : Server W Sound) (n : ℕ) (w0 : W) (run : Run W) (i link moment : ℕ) (wish : Wish) (id : ℕ) (body : Body) (again : Bool)
    → (run.links i).number ≡ Some link → (run.links i).slot ≡ Coming (Asks id body again) → EarlyRun s n w0 run
    → EarlyRun s n w0 (calls s.machine run i link moment wish id body again)
early-calls s n w0 run i link moment wish id body again number coming h =
    cond_both wish.memory (with_link run i (with_slot (run.links i) (Going (Asks id body again) NoMemory))) (calls_by s.machine run i id body again (chosen s.machine run link moment (Calls id body) wish.fault)) (EarlyRun s n w0)
    (λ e. early-memory s n w0 run i id body again coming h)
    (λ e. cond_both (wish.fault && s.is_legal run.world (entry link moment (Calls id body) Fault)) (entry link moment (Calls id body) Fault) (entry link moment (Calls id body) Ran) (λ x. EarlyRun s n w0 (calls_by s.machine run i id body again x))
    (λ f. by Fault (and_parts wish.fault (s.is_legal run.world (entry link moment (Calls id body) Fault)) f).1)
    (λ f. by Ran (s.ran_is_legal run.world link moment (Calls id body) (early-within s n w0 run i link h number))))
  where
    by : (o : Outcome) → s.is_legal run.world (entry link moment (Calls id body) o) ≡ true → EarlyRun s n w0 (calls_by s.machine run i id body again (entry link moment (Calls id body) o))
    by o legal = early-called s n w0 run i link moment id body again o ((view_of s n run).holder link) legal number coming refl (s.answers run.world n (entry link moment (Calls id body) o) h.stands.sound legal) h

-- ---- OpenSession

opens-early-stage : (stage : Stage) (a : Answer) → EarlyStage stage (Coming Opens) → EarlyStage stage (Going Opens a)
opens-early-stage Opening a ok = tt
opens-early-stage Entering a ok = tt
opens-early-stage Joining a ok = ok
opens-early-stage Ready a ok = ok
opens-early-stage Gone a ok = tt

early-miss : {W : Type 0} {Sound : W → Type 0} (s : Server W Sound) (n : ℕ) (w0 : W) (run : Run W) (i : ℕ) (a : Answer) → (run.links i).slot ≡ Coming Opens → EarlyRun s n w0 run → EarlyRun s n w0 (with_link run i (with_slot (run.links i) (Going Opens a)))
early-miss s n w0 run i a coming h =
    early-set s n w0 run i (with_slot (run.links i) (Going Opens a)) refl (λ e. absurd (let f : Coming Opens ≡ Idle = sym coming ∙ e in cc))
    (record { got = (h.each i).got; slot = tt; holds = (h.each i).holds })
    (λ e. opens-early-stage run.client.stage a (stage-of s n w0 run i (Coming Opens) h coming e)) h

numbers-opened : (next : ℕ) (links : ℕ → Link) (top i : ℕ) (x : Link) → x.number ≡ Some next → (top < i → ⊥) → Numbers next links top → Numbers (suc next) (set links i x) top
numbers-opened next links top i x new within t =
    record {
      apart = λ p q l a b. elim (cases_eq p i) [
        | inl at_p ↦ elim (cases_eq q i) [
          | inl at_q ↦ at_p ∙ sym at_q
          | inr off_q ↦ absurd (let e : l ≡ next = is_next p l at_p a in let f : l < next = t.drawn q l (sym (ap (λ (y : Link). y.number) (set-off links i x q off_q)) ∙ b) in omega arith)
        ]
        | inr off_p ↦ elim (cases_eq q i) [
          | inl at_q ↦ absurd (let e : l ≡ next = is_next q l at_q b in let f : l < next = t.drawn p l (sym (ap (λ (y : Link). y.number) (set-off links i x p off_p)) ∙ a) in omega arith)
          | inr off_q ↦ t.apart p q l (sym (ap (λ (y : Link). y.number) (set-off links i x p off_p)) ∙ a) (sym (ap (λ (y : Link). y.number) (set-off links i x q off_q)) ∙ b)
        ]
      ];
      drawn = λ p l a. elim (cases_eq p i) [
        | inl at_p ↦ let e : l ≡ next = is_next p l at_p a in omega arith
        | inr off_p ↦ let f : l < next = t.drawn p l (sym (ap (λ (y : Link). y.number) (set-off links i x p off_p)) ∙ a) in omega arith
      ];
      later = λ j more. elim (cases_eq j i) [
        | inl at_j ↦ absurd (within (omega arith))
        | inr off_j ↦ (ap (λ (y : Link). y.number) (set-off links i x j off_j) ∙ (t.later j more).0, ap (λ (y : Link). y.slot) (set-off links i x j off_j) ∙ (t.later j more).1)
      ];
    }
  where
    is_next : (p l : ℕ) → p ≡ i → (set links i x p).number ≡ Some l → l ≡ next
    is_next p l at_p a = let e : Some l ≡ Some next = sym a ∙ ap (λ (y : Link). y.number) (set-at links i x p at_p) ∙ new in cc

origin-opened : (n : ℕ) (v : View) (links : ℕ → Link) (i : ℕ) (x : Link) (done : List Done) → x.number ≡ Some v.next → (links i).number ≡ None
    → (v.next ≤ n → (l : ℕ) → v.holder l ≡ Some n → ⊥)
    → Origin n v links done → Origin n (opened n v) (set links i x) done
origin-opened n v links i x done new fresh far (undrawn before empty) =
    elim (cases_eq v.next n) [
      | inl same ↦ ours i (ap (λ (y : Link). y.number) (set-at links i x i refl) ∙ new ∙ ap (λ k. Some k) same)
          (λ l. cond_both (nat_eq l v.next) (Some v.next) (v.holder l) (λ o. o ≡ Some n → l ≡ n) (λ e h. eqb-true l v.next e ∙ same) (λ e h. absurd (far before l h)))
          (cond-true (nat_eq v.next n) [] v.cache (eq-eqb v.next n same)) empty (omega arith)
      | inr other ↦ undrawn (elim (cases_lt v.next n) [ inl less ↦ less | inr more ↦ absurd (other (omega arith)) ]) empty
    ]
origin-opened n v links i x done new fresh far (ours j is back empty nothing there) =
    ours j (ap (λ (y : Link). y.number) (set-off links i x j (λ at_j. absurd (let e : None ≡ Some n = sym fresh ∙ ap (λ k. (links k).number) (sym at_j) ∙ is in cc))) ∙ is)
    (λ l. cond_both (nat_eq l v.next) (Some v.next) (v.holder l) (λ o. o ≡ Some n → l ≡ n) (λ e h. absurd (let f : v.next ≡ n = cc in omega arith)) (λ e h. back l h))
    (cond-false (nat_eq v.next n) [] v.cache (ne_eqb v.next n (λ e. absurd (omega arith))) ∙ empty) nothing (omega arith)
origin-opened n v links i x done new fresh far (foreign there others) =
    foreign (omega arith) (λ j. upd links i x (λ k l. l.number ≢ Some n) (λ e. absurd (let f : Some v.next ≡ Some n = sym new ∙ e in let g : v.next ≡ n = cc in omega arith)) (λ k other. others k) j)

early-opened : {W : Type 0} {Sound : W → Type 0} (s : Server W Sound) (n : ℕ) (w0 : W) (run : Run W) (i : ℕ) (e : Entry)
    → s.is_legal run.world e ≡ true
    → (run.links i).number ≡ None → (run.links i).slot ≡ Coming Opens
    → s.view (s.after run.world e) n ≡ opened n (view_of s n run)
    → picked_of s.machine n run.world e ≡ []
    → EarlyRun s n w0 run
    → EarlyRun s n w0 (opens_by (tells s.machine run e) i (Opened (view_of s n run).next))
early-opened s n w0 run i e legal fresh coming left none h =
    record {
      small = h.small;
      stands = record { sound = st.sound; is = st.is };
      token = h.token;
      wait = h.wait;
      results = h.results;
      stage = upd run.links i x (λ k l. k ≡ run.top → EarlyStage run.client.stage l.slot) (λ e. opens-early-stage run.client.stage (Fine []) (stage-of s n w0 run i (Coming Opens) h coming e)) (λ k other e. subst (λ m. EarlyStage run.client.stage (run.links m).slot) (sym e) h.stage) run.top refl;
      numbers = subst (λ (y : View). Numbers y.next (set run.links i x) run.top) (sym left)
          (numbers-opened v.next run.links run.top i x refl (λ more. absurd (let f : Coming Opens ≡ Idle = sym coming ∙ (h.numbers.later i more).1 in cc)) h.numbers);
      each = upd run.links i x (λ k l. EarlyLink s.token v' l)
          (record {
            got = (h.each i).got;
            slot = tt;
            holds = λ l k is holds.
                (let same : v.next ≡ l = cc in
                let f : Some v.next ≡ Some k = sym (ap (λ (y : View). y.holder v.next) left ∙ set-at v.holder v.next (Some v.next) v.next refl) ∙ ap v'.holder same ∙ holds in
                let g : v.next ≡ k = cc in sym g ∙ same);
          })
          (λ k other. early-link s.token v v' v.next (run.links k) (goes-to v (opened n v) v' v.next left (goes-opened n v v.next)) (λ l is. (h.numbers.drawn k l is, λ same. absurd (let less = h.numbers.drawn k l is in omega arith))) (h.each k));
      origin = subst (λ (y : View × List Done). Origin n y.0 (set run.links i x) y.1) (λ k. (sym left k, effective-none s n w0 run e h.stands none k))
          (origin-opened n v run.links i x (effective s.machine n w0 run.history) refl fresh (undrawn-far s n w0 run h) h.origin);
    }
  where
    st : Stands s w0 (tells s.machine run e)
    st = stands-more s w0 run e legal h.stands

    v : View
    v = view_of s n run

    v' : View
    v' = s.view (s.after run.world e) n

    x : Link
    x = record { number = Some v.next; ended = (run.links i).ended; slot = Going Opens (Fine []); got = (run.links i).got }

early-opens : {W : Type 0} {Sound : W → Type 0} (s : Server W Sound) (n : ℕ) (w0 : W) (run : Run W) (i moment : ℕ) (memory : Bool)
    → (run.links i).number ≡ None → (run.links i).slot ≡ Coming Opens → EarlyRun s n w0 run
    → EarlyRun s n w0 (opens s.machine run i moment memory)
early-opens s n w0 run i moment memory fresh coming h =
    cond_both memory (with_link run i (with_slot (run.links i) (Going Opens NoMemory))) (opens_told s.machine run i (entry 0 moment Open Ran)) (EarlyRun s n w0)
    (λ e. early-miss s n w0 run i NoMemory coming h)
    (λ e. by (s.answers run.world n (entry 0 moment Open Ran) h.stands.sound (s.ran_is_legal run.world 0 moment Open (omega arith))))
  where
    e : Entry
    e = entry 0 moment Open Ran

    v : View
    v = view_of s n run

    by : ((s.told run.world e ≡ Opened v.next) × (s.view (s.after run.world e) n ≡ opened n v)) ⊎ ((a : Answer) × (s.told run.world e ≡ Reply a false) × (is_fine a ≡ false) × (s.view (s.after run.world e) n ≡ v)) → EarlyRun s n w0 (opens_told s.machine run i e)
    by (inl (told, left)) = subst (λ t. EarlyRun s n w0 (opens_by (tells s.machine run e) i t)) (sym told) (early-opened s n w0 run i e (s.ran_is_legal run.world 0 moment Open (omega arith)) fresh coming left refl h)
    by (inr (a, told, bad, left)) = subst (λ t. EarlyRun s n w0 (opens_by (tells s.machine run e) i t)) (sym told) (early-miss s n w0 (tells s.machine run e) i a coming (early-same s n w0 run e (s.ran_is_legal run.world 0 moment Open (omega arith)) left refl h))

early-arrives : {W : Type 0} {Sound : W → Type 0} (s : Server W Sound) (n : ℕ) (w0 : W) (run : Run W) (i moment : ℕ) (wish : Wish) (number : Option ℕ) (slot : Slot)
    → (run.links i).number ≡ number → (run.links i).slot ≡ slot → EarlyRun s n w0 run
    → EarlyRun s n w0 (arrives s.machine run i moment wish number slot)
early-arrives s n w0 run i moment wish None Idle fresh coming h = h
early-arrives s n w0 run i moment wish (Some link) Idle fresh coming h = h
early-arrives s n w0 run i moment wish None (Going r a) fresh coming h = h
early-arrives s n w0 run i moment wish (Some link) (Going r a) fresh coming h = h
early-arrives s n w0 run i moment wish None (Coming Opens) fresh coming h =
    cond_both wish.no_sweep run (tells s.machine run (entry 0 moment Pulse Ran)) (λ r. EarlyRun s n w0 (opens s.machine r i moment wish.memory))
    (λ e. early-opens s n w0 run i moment wish.memory fresh coming h)
    (λ e. early-opens s n w0 (tells s.machine run (entry 0 moment Pulse Ran)) i moment wish.memory fresh coming (early-parting s n w0 run 0 moment Pulse tt (omega arith) h))
early-arrives s n w0 run i moment wish (Some link) (Coming Opens) fresh coming h = early-drops s n w0 run i h
early-arrives s n w0 run i moment wish None (Coming (Asks id body again)) fresh coming h = early-drops s n w0 run i h
early-arrives s n w0 run i moment wish (Some link) (Coming (Asks id body again)) number coming h = early-calls s n w0 run i link moment wish id body again number coming h

early-to-server : {W : Type 0} {Sound : W → Type 0} (s : Server W Sound) (n : ℕ) (w0 : W) (run : Run W) (i moment : ℕ) (wish : Wish) (ended : Bool) → EarlyRun s n w0 run → EarlyRun s n w0 (to_server s.machine run i moment wish ended)
early-to-server s n w0 run i moment wish true h = h
early-to-server s n w0 run i moment wish false h = early-arrives s n w0 run i moment wish (run.links i).number (run.links i).slot refl refl h

early-quiet-by : {W : Type 0} {Sound : W → Type 0} (s : Server W Sound) (n : ℕ) (w0 : W) (run : Run W) (i : ℕ) (t : Told) → EarlyRun s n w0 run → EarlyRun s n w0 (quiet_by run i t)
early-quiet-by s n w0 run i Displaced h = early-ends s n w0 run i h
early-quiet-by s n w0 run i (Opened link) h = h
early-quiet-by s n w0 run i (Reply a ends) h = h
early-quiet-by s n w0 run i Alive h = h
early-quiet-by s n w0 run i Parted h = h

early-quiet : {W : Type 0} {Sound : W → Type 0} (s : Server W Sound) (n : ℕ) (w0 : W) (run : Run W) (i moment : ℕ) (wish : Wish) (ended : Bool) (number : Option ℕ) → ((l : ℕ) → number ≡ Some l → l < numbers_end) → EarlyRun s n w0 run → EarlyRun s n w0 (quiet s.machine run i moment wish ended number)
early-quiet s n w0 run i moment wish true number within h = h
early-quiet s n w0 run i moment wish false None within h = h
early-quiet s n w0 run i moment wish false (Some link) within h =
    cond_both wish.memory run (quiet_told s.machine run i (entry link moment Pulse Ran)) (EarlyRun s n w0) (λ e. h)
    (λ e. early-quiet-by s n w0 (tells s.machine run (entry link moment Pulse Ran)) i (s.told run.world (entry link moment Pulse Ran)) (early-parting s n w0 run link moment Pulse tt (within link refl) h))

early-parts : {W : Type 0} {Sound : W → Type 0} (s : Server W Sound) (n : ℕ) (w0 : W) (run : Run W) (i moment : ℕ) (wish : Wish) (ask : Ask) (ended : Bool) (number : Option ℕ) → IsParting ask → ((l : ℕ) → number ≡ Some l → l < numbers_end) → EarlyRun s n w0 run → EarlyRun s n w0 (parts s.machine run i moment wish ask ended number)
early-parts s n w0 run i moment wish ask true number is within h = h
early-parts s n w0 run i moment wish ask false None is within h = early-ends s n w0 run i h
early-parts s n w0 run i moment wish ask false (Some link) is within h =
    early-ends s n w0 (cond wish.memory run (tells s.machine run (entry link moment ask Ran))) i
    (cond_both wish.memory run (tells s.machine run (entry link moment ask Ran)) (EarlyRun s n w0) (λ e. h) (λ e. early-parting s n w0 run link moment ask is (within link refl) h))

-- ---- the client

early-client : {W : Type 0} {Sound : W → Type 0} (s : Server W Sound) (n : ℕ) (w0 : W) (run : Run W) (stage : Stage) (tries id : ℕ) (x : Slot)
    → EarlySlot s.token (run.links run.top).number x → EarlyStage stage x
    → EarlyRun s n w0 run
    → EarlyRun s n w0 (with_client run (record { stage = stage; tries = tries; opening_id = id; token = run.client.token; first = run.client.first; drawn = run.client.drawn; wait = run.client.wait; results = run.client.results; row = run.client.row }) x)
early-client s n w0 run stage tries id x slot ok h =
    let link : Link = with_slot (run.links run.top) x in
    record {
      small = h.small;
      stands = record { sound = h.stands.sound; is = h.stands.is };
      token = h.token;
      wait = h.wait;
      results = h.results;
      stage = subst (λ (l : Link). EarlyStage stage l.slot) (sym (set-at run.links run.top link run.top refl)) ok;
      numbers = numbers-links (view_of s n run).next run.links run.top run.top link refl (inr refl) h.numbers;
      each = upd run.links run.top link (λ k l. EarlyLink s.token (view_of s n run) l) (record { got = (h.each run.top).got; slot = slot; holds = (h.each run.top).holds }) (λ k other. h.each k);
      origin = origin-links n (view_of s n run) run.links (set run.links run.top link) (effective s.machine n w0 run.history) (set-number run.links run.top link refl) h.origin;
    }

early-commands : {W : Type 0} {Sound : W → Type 0} (s : Server W Sound) (n : ℕ) (w0 : W) (run : Run W) (stage : Stage) (wait : Option Wait) (call : Call) → run.client.stage ≡ stage → EarlyRun s n w0 run → EarlyRun s n w0 (commands run stage wait call)
early-commands s n w0 run Ready None call is h = absurd (subst (λ st. EarlyStage st (run.links run.top).slot) is h.stage)
early-commands s n w0 run Ready (Some w) call is h = h
early-commands s n w0 run Opening wait call is h = h
early-commands s n w0 run Entering wait call is h = h
early-commands s n w0 run Joining wait call is h = h
early-commands s n w0 run Gone wait call is h = h

early-breaks-stage : (stage : Stage) (slot : Slot) → EarlyStage stage slot → EarlyStage (stage_anew stage) (Coming Opens)
early-breaks-stage Opening slot ok = tt
early-breaks-stage Entering slot ok = tt
early-breaks-stage Joining slot ok = tt
early-breaks-stage Ready slot ok = tt
early-breaks-stage Gone slot ok = tt

early-breaks : {W : Type 0} {Sound : W → Type 0} (s : Server W Sound) (n : ℕ) (w0 : W) (run : Run W) → EarlyRun s n w0 run → EarlyRun s n w0 (breaks run)
early-breaks s n w0 run h =
    let x : Link = with_slot blank (Coming Opens) in
    let same : x.number ≡ (run.links (suc run.top)).number = sym (h.numbers.later (suc run.top) (omega arith)).0 in
    record {
      small = h.small;
      stands = record { sound = h.stands.sound; is = h.stands.is };
      token = h.token;
      wait = h.wait;
      results = h.results;
      stage = subst (λ (l : Link). EarlyStage (stage_anew run.client.stage) l.slot) (sym (set-at run.links (suc run.top) x (suc run.top) refl)) (early-breaks-stage run.client.stage (run.links run.top).slot h.stage);
      numbers = record {
        apart = λ a b l p q. h.numbers.apart a b l (sym (set-number run.links (suc run.top) x same a) ∙ p) (sym (set-number run.links (suc run.top) x same b) ∙ q);
        drawn = λ a l p. h.numbers.drawn a l (sym (set-number run.links (suc run.top) x same a) ∙ p);
        later = λ j more. (set-number run.links (suc run.top) x same j ∙ (h.numbers.later j (omega arith)).0, ap (λ (l : Link). l.slot) (set-off run.links (suc run.top) x j (λ e. absurd (omega arith))) ∙ (h.numbers.later j (omega arith)).1);
      };
      each = upd run.links (suc run.top) x (λ k l. EarlyLink s.token (view_of s n run) l) (record { got = refl; slot = tt; holds = λ l k is. absurd (cc) }) (λ k other. h.each k);
      origin = origin-links n (view_of s n run) run.links (set run.links (suc run.top) x) (effective s.machine n w0 run.history) (set-number run.links (suc run.top) x same) h.origin;
    }

-- ---- what holds of every run

pub data Always {W : Type 0} {Sound : W → Type 0} (s : Server W Sound) (n : ℕ) (w0 : W) (run : Run W) : Type 0 where
  early : EarlyRun s n w0 run → Always s n w0 run
  holds : Holds s n w0 run → Always s n w0 run
  elsewhere : (k : ℕ) → run.client.token ≡ Some (s.token k) → (s.token k ≡ s.token n → ⊥) → Always s n w0 run

-- it reads its token: that of n

no-command : (token : ℕ → List ℕ) (number : Option ℕ) (slot : Slot) → EarlySlot token number slot → is_command slot ≡ true → ⊥
no-command token number Idle ok e = false≢true e
no-command token number (Coming Opens) ok e = false≢true e
no-command token number (Coming (Asks id Login again)) ok e = false≢true e
no-command token number (Coming (Asks id Token again)) ok e = false≢true e
no-command token number (Coming (Asks id (Rejoin x) again)) ok e = ok
no-command token number (Coming (Asks id (Does call) again)) ok e = ok
no-command token number (Going r a) ok e = false≢true e

early-coming : (token : ℕ → List ℕ) (number : Option ℕ) (t : List ℕ) (wait : Option Wait) (own : Own) (got : Bool) (slot : Slot) → EarlySlot token number slot → ComingOk t wait own got slot
early-coming token number t wait own got Idle ok = tt
early-coming token number t wait own got (Coming Opens) ok = tt
early-coming token number t wait own got (Coming (Asks id Login again)) ok = tt
early-coming token number t wait own got (Coming (Asks id Token again)) ok = tt
early-coming token number t wait own got (Coming (Asks id (Rejoin x) again)) ok = absurd ok
early-coming token number t wait own got (Coming (Asks id (Does call) again)) ok = absurd ok
early-coming token number t wait own got (Going r a) ok = tt

-- whose the link of its number is
who-own : (n : ℕ) (o : Option ℕ) → ((k : ℕ) → o ≡ Some k → k ≡ n) → IsTaken (who n o)
who-own n None is = tt
who-own n (Some k) is = subst IsTaken (sym (cond-true (nat_eq k n) Mine Other (eq-eqb k n (is k refl)))) tt

pub record OursIs (n : ℕ) (v : View) (links : ℕ → Link) (done : List Done) : Type 0 where
  pub back : (l : ℕ) → v.holder l ≡ Some n → l ≡ n
  pub empty : v.cache ≡ []
  pub nothing : done ≡ []
  pub there : n < v.next

ours-is : (n : ℕ) (v : View) (links : ℕ → Link) (done : List Done) (j : ℕ) → (links j).number ≡ Some n → ((l : ℕ) → (links j).number ≡ Some l → l < v.next) → Origin n v links done → OursIs n v links done
ours-is n v links done j is drawn (undrawn before empty) = absurd (let less = drawn n is in omega arith)
ours-is n v links done j is drawn (ours k was back empty nothing there) = record { back = back; empty = empty; nothing = nothing; there = there }
ours-is n v links done j is drawn (foreign there others) = absurd (others j is)

reads-token : {W : Type 0} {Sound : W → Type 0} (s : Server W Sound) (n : ℕ) (w0 : W) (run : Run W) (b : List ℕ) → b ≡ s.token n → (run.links run.top).number ≡ Some n → EarlyRun s n w0 run
    → HeldRun s n w0 None (record {
      client = holding run.client b;
      top = run.top;
      world = run.world;
      history = run.history;
      links = set run.links run.top (record { number = (run.links run.top).number; ended = (run.links run.top).ended; slot = again run.client.wait; got = true });
    })
reads-token s n w0 run b token number h =
    record {
      stands = record { sound = h.stands.sound; is = h.stands.is };
      tied = record {
        apart = numbers.apart;
        drawn = numbers.drawn;
        here = λ l holds. (run.top, same run.top ∙ number ∙ ap (λ k. Some k) (sym (o.back l holds)));
        there = o.there;
        later = λ j more. (numbers.later j more).0;
      };
      held = record {
        token = ap (λ t. Some t) token;
        later = λ j more. upd run.links run.top x (λ k l. run.top < k → (l.got ≡ false) × (l.slot ≡ Idle)) (λ less. absurd (omega arith)) (λ k other less. ((h.each k).got, (h.numbers.later k less).1)) j more;
        each = upd run.links run.top x (λ k l. LinkOk (s.token n) v.alive run.client.wait (own_of n v.holder l.number) l)
            (record {
              got_own = λ e. subst (λ m. IsTaken (own_of n v.holder m)) (sym number) (who-own n (v.holder n) (λ k is. (h.each run.top).holds n k number is));
              own_got = λ m. refl;
              own_alive = λ m. let e = own-mine n v.holder (run.links run.top).number m in s.held_is_alive run.world n e.0 h.stands.sound e.2;
              coming = subst (λ sl. ComingOk (s.token n) run.client.wait (own_of n v.holder (run.links run.top).number) true sl) (sym idle) tt;
            })
            (λ k other. record {
              got_own = λ e. absurd (false≢true (sym (h.each k).got ∙ e));
              own_got = λ m. absurd (far k other m);
              own_alive = λ m. absurd (far k other m);
              coming = early-coming s.token (run.links k).number (s.token n) run.client.wait (own_of n v.holder (run.links k).number) (run.links k).got (run.links k).slot (h.each k).slot;
            });
        front = λ i j less m c. absurd (upd run.links run.top x (λ k l. is_command l.slot ≡ true → ⊥) (λ e. false≢true (ap is_command (sym idle) ∙ e)) (λ k other e. no-command s.token (run.links k).number (run.links k).slot (h.each k).slot e) i c);
        stage = subst (λ (l : Link). (l.got ≡ true) × ReadySlot run.client.wait None l.slot) (sym (set-at run.links run.top x run.top refl))
            (refl, subst (λ w. ReadySlot w None (again run.client.wait)) (sym h.wait) idle);
        effects = o.nothing ∙ (λ k. kept (sym h.results k) ++ nothing_out (sym h.wait k));
        work = subst (λ w. Work (suc run.client.opening_id) run.client.drawn run.client.row w v.alive v.cache None) (sym h.wait)
            (record { no_extra = refl; fits = subst (λ (c : List Kept). Fits (suc run.client.opening_id) run.client.drawn run.client.row c) (sym o.empty) tt });
        short = subst (λ (c : List Kept). length c ≤ 32) (sym o.empty) (omega arith);
      };
    }
  where
    v : View
    v = view_of s n run

    x : Link
    x = record { number = (run.links run.top).number; ended = (run.links run.top).ended; slot = again run.client.wait; got = true }

    same : (j : ℕ) → (set run.links run.top x j).number ≡ (run.links j).number
    same j = set-number run.links run.top x refl j

    idle : again run.client.wait ≡ Idle
    idle = ap again h.wait

    numbers : Numbers v.next (set run.links run.top x) run.top
    numbers = numbers-links v.next run.links run.top run.top x refl (inr refl) h.numbers

    o : OursIs n v run.links (effective s.machine n w0 run.history)
    o = ours-is n v run.links (effective s.machine n w0 run.history) run.top number (λ l is. h.numbers.drawn run.top l is) h.origin

    far : (k : ℕ) → (k ≡ run.top → ⊥) → own_of n v.holder (run.links k).number ≡ Mine → ⊥
    far k other m = let e = own-mine n v.holder (run.links k).number m in other (h.numbers.apart k run.top n (e.1 ∙ ap (λ j. Some j) (o.back e.0 e.2)) number)

    nothing_out : Option Wait → List Done
    nothing_out w = outstanding w None

-- what the token is of
token-slot : (token : ℕ → List ℕ) (number : Option ℕ) (r : Request) (b : List ℕ) → TokenSlot (Going r (Fine b)) → EarlySlot token number (Going r (Fine b)) → (l : ℕ) × (number ≡ Some l) × (token_in b ≡ Some (token l))
token-slot token number Opens b is ok = absurd is
token-slot token number (Asks id Login again) b is ok = absurd is
token-slot token number (Asks id Token again) b is ok = ok b refl
token-slot token number (Asks id (Rejoin x) again) b is ok = absurd is
token-slot token number (Asks id (Does call) again) b is ok = absurd is

early-joins : {W : Type 0} {Sound : W → Type 0} (s : Server W Sound) (n : ℕ) (w0 : W) (run : Run W) (r : Request) (b : List ℕ) → run.client.stage ≡ Joining → (run.links run.top).slot ≡ Going r (Fine b) → EarlyRun s n w0 run → Always s n w0 (steps_on run Joining None b)
early-joins s n w0 run r b joins going h =
    let of = token-slot s.token (run.links run.top).number r b (subst (λ (y : Stage × Slot). EarlyStage y.0 y.1) (λ k. (joins k, going k)) h.stage) (subst (λ sl. EarlySlot s.token (run.links run.top).number sl) going (h.each run.top).slot) in
    let within : of.0 < numbers_end = early-within s n w0 run run.top of.0 h of.1 in
    subst (λ o. Always s n w0 (token_told run o)) (sym of.2)
    (elim (cases_eq of.0 n) [
      | inl same ↦ holds (None, reads-token s n w0 run (s.token of.0) (ap s.token same) (of.1 ∙ ap (λ k. Some k) same) h)
      | inr other ↦ elsewhere of.0 refl (λ e. other (s.tokens_differ of.0 n within h.small e))
    ])

early-steps-on : {W : Type 0} {Sound : W → Type 0} (s : Server W Sound) (n : ℕ) (w0 : W) (run : Run W) (r : Request) (stage : Stage) (token : Option (List ℕ)) (b : List ℕ)
    → run.client.stage ≡ stage → run.client.token ≡ token → (run.links run.top).slot ≡ Going r (Fine b) → EarlyRun s n w0 run → Always s n w0 (steps_on run stage token b)
early-steps-on s n w0 run r stage (Some t) b is has going h = absurd (let e : None ≡ Some t = sym h.token ∙ has in cc)
early-steps-on s n w0 run r Opening None b is has going h = early (early-client s n w0 run Entering 0 (suc run.client.opening_id) (Coming (Asks (suc run.client.opening_id) Login false)) tt tt h)
early-steps-on s n w0 run r Entering None b is has going h = early (early-client s n w0 run Joining 0 (suc run.client.opening_id) (Coming (Asks (suc run.client.opening_id) Token false)) tt tt h)
early-steps-on s n w0 run r Joining None b is has going h = early-joins s n w0 run r b is going h
early-steps-on s n w0 run r Ready None b is has going h = early h
early-steps-on s n w0 run r Gone None b is has going h = early h

early-gone : {W : Type 0} {Sound : W → Type 0} (s : Server W Sound) (n : ℕ) (w0 : W) (run : Run W) → EarlyRun s n w0 run → EarlyRun s n w0 (with_client run (in_stage run.client Gone) Idle)
early-gone s n w0 run h = early-client s n w0 run Gone 0 run.client.opening_id Idle tt tt h

early-same-slot : (token : ℕ → List ℕ) (number : Option ℕ) (c : Client) (stage : Stage) → c.token ≡ None → EarlySlot token number (Coming (same_request c stage))
early-same-slot token number c Opening has = tt
early-same-slot token number c Entering has = tt
early-same-slot token number c Joining has = subst (λ x. EarlySlot token number (Coming (Asks (suc c.opening_id) (last_body x) false))) (sym has) tt
early-same-slot token number c Ready has = tt
early-same-slot token number c Gone has = tt

early-same-stage : (c : Client) (stage : Stage) (slot : Slot) → c.token ≡ None → EarlyStage stage slot → EarlyStage stage (Coming (same_request c stage))
early-same-stage c Opening slot has ok = tt
early-same-stage c Entering slot has ok = tt
early-same-stage c Joining slot has ok = subst (λ x. TokenSlot (Coming (Asks (suc c.opening_id) (last_body x) false))) (sym has) tt
early-same-stage c Ready slot has ok = ok
early-same-stage c Gone slot has ok = tt

early-takes-step : {W : Type 0} {Sound : W → Type 0} (s : Server W Sound) (n : ℕ) (w0 : W) (run : Run W) (r : Request) (a : Answer) → (run.links run.top).slot ≡ Going r a → EarlyRun s n w0 run → Always s n w0 (takes_step run a)
early-takes-step s n w0 run r (Fine b) going h = early-steps-on s n w0 run r run.client.stage run.client.token b refl refl going h
early-takes-step s n w0 run r MiscErr going h = early (early-gone s n w0 run h)
early-takes-step s n w0 run r (Refuses code block) going h = early (early-gone s n w0 run h)
early-takes-step s n w0 run r NoMemory going h =
    cond_both (nat_lt run.client.tries 3) (with_client run (opens_with run.client run.client.stage (suc run.client.tries)) (Coming (same_request run.client run.client.stage))) (with_client run (in_stage run.client Gone) Idle) (Always s n w0)
    (λ e. early (early-client s n w0 run run.client.stage (suc run.client.tries) (suc run.client.opening_id) (Coming (same_request run.client run.client.stage))
    (early-same-slot s.token (run.links run.top).number run.client run.client.stage h.token) (early-same-stage run.client run.client.stage (run.links run.top).slot h.token h.stage) h))
    (λ e. early (early-gone s n w0 run h))

early-takes : {W : Type 0} {Sound : W → Type 0} (s : Server W Sound) (n : ℕ) (w0 : W) (run : Run W) (stage : Stage) (r : Request) (a : Answer) → run.client.stage ≡ stage → (run.links run.top).slot ≡ Going r a → EarlyRun s n w0 run → Always s n w0 (takes run stage r a)
early-takes s n w0 run Opening r a is going h = early-takes-step s n w0 run r a going h
early-takes s n w0 run Entering r a is going h = early-takes-step s n w0 run r a going h
early-takes s n w0 run Joining r a is going h = early-takes-step s n w0 run r a going h
early-takes s n w0 run Ready r a is going h = absurd (subst (λ st. EarlyStage st (run.links run.top).slot) is h.stage)
early-takes s n w0 run Gone r a is going h = early h

early-to-client : {W : Type 0} {Sound : W → Type 0} (s : Server W Sound) (n : ℕ) (w0 : W) (run : Run W) (slot : Slot) → (run.links run.top).slot ≡ slot → EarlyRun s n w0 run → Always s n w0 (to_client run slot)
early-to-client s n w0 run Idle is h = early h
early-to-client s n w0 run (Coming r) is h = early h
early-to-client s n w0 run (Going r a) is h = early-takes s n w0 run run.client.stage r a refl is h

pub step-early : {W : Type 0} {Sound : W → Type 0} (s : Server W Sound) (n : ℕ) (w0 : W) (run : Run W) (e : Event) → Allowed s.machine n run e → EarlyRun s n w0 run → Always s n w0 (step s.machine run e)
step-early s n w0 run (Commands call) ok h = early (early-commands s n w0 run run.client.stage run.client.wait call refl h)
step-early s n w0 run (ToServer i moment wish) ok h = early (early-to-server s n w0 run i moment wish (run.links i).ended h)
step-early s n w0 run ToClient ok h = early-to-client s n w0 run (run.links run.top).slot refl h
step-early s n w0 run (Quiet i moment wish) ok h = early (early-quiet s n w0 run i moment wish (run.links i).ended (run.links i).number (λ l is. early-within s n w0 run i l h is) h)
step-early s n w0 run (Loses i moment wish) ok h = early (early-parts s n w0 run i moment wish Lost (run.links i).ended (run.links i).number tt (λ l is. early-within s n w0 run i l h is) h)
step-early s n w0 run (Drains i moment wish) ok h = early (early-parts s n w0 run i moment wish Bye (run.links i).ended (run.links i).number tt (λ l is. early-within s n w0 run i l h is) h)
step-early s n w0 run (Ends i) ok h = early (early-ends s n w0 run i h)
step-early s n w0 run Breaks ok h = early (early-breaks s n w0 run h)
step-early s n w0 run (Others e) ok h = early (early-others s n w0 run e ok h)
