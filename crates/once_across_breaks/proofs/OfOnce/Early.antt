-- Before the client holds a token.
use Rattle.std.proofs.Common.{◌≡◌, ◌≢◌, ◌∙◌, ◌⊎◌, inl, inr, refl, sym, ap, subst, ℕ, suc, ◌<◌, ◌≤◌, true, false, cond, List, [], ◌∷◌, ◌++◌, Option, Some, None, arith}
use Rattle.std.proofs.lemmas.Bool.{cond_both, cases_lt}
use Rattle.once_across_breaks.specs.once.Messages.{token_in}
use Rattle.once_across_breaks.specs.once.Messages.{Body, Login, Token, Rejoin, Does, Answer, Fine, is_fine, Done, Logout, Other as Bytes, Command, body_of}
use Rattle.once_across_breaks.specs.once.Server.{Ask, Open, Calls, Pulse, Bye, Lost, Drain, Told, Opened, Reply, Outcome, Ran, Entry, entry, View, is_some_of, opened, detached, ended, swept, adopted, storing, CallLaw, AskLaw, Server, Sends, numbers_end}
use Rattle.once_across_breaks.specs.once.Run.{Opens, Asks, Slot, Idle, Coming, Going, Link, Stage, Opening, Entering, Joining, Ready, Gone, Run, tells}
use Rattle.once_across_breaks.specs.once.Once.{effective, OthersKeepOut}
use Rattle.once_across_breaks.proofs.OfOnce.Tied.{picked_of, Passes, passes-same}
use Rattle.once_across_breaks.specs.once.Run.{again}
use Rattle.once_across_breaks.proofs.OfOnce.Tied.{set-goes}
use Rattle.once_across_breaks.proofs.OfOnce.Runs.{Stands, view_of, stands-more, effective-none, others-pass, others-none, IsParting, parting-pass, parting-none}
use Rattle.once_across_breaks.proofs.OfOnce.Events.{set-off}

-- ---- what any ask does to the links

-- the links below the next number, but for the link l0, stay or are let go
pub record Goes (v v' : View) (l0 : ℕ) : Type 0 where
  pub goes : (l : ℕ) → l < v.next → (l ≡ l0 → ⊥) → (v'.holder l ≡ v.holder l) ⊎ (v'.holder l ≡ None)
  pub next : v.next ≤ v'.next

pub goes-same : (v v' : View) (l0 : ℕ) → v' ≡ v → Goes v v' l0
goes-same v v' l0 e = record { goes = λ l less far. inl (ap (λ (y : View). y.holder l) e); next = let f : v'.next ≡ v.next = ap (λ (y : View). y.next) e in omega arith }

pub goes-to : (v v' v'' : View) (l0 : ℕ) → v'' ≡ v' → Goes v v' l0 → Goes v v'' l0
goes-to v v' v'' l0 e g = subst (λ x. Goes v x l0) (sym e) g

pub goes-opened : (n : ℕ) (v : View) (l0 : ℕ) → Goes v (opened n v) l0
goes-opened n v l0 = record { goes = λ l less far. inl (set-off v.holder v.next (Some v.next) l (λ e. absurd (omega arith))); next = omega arith }

goes-detached : (v : View) (l l0 : ℕ) → Goes v (detached v l) l0
goes-detached v l l0 = record { goes = λ j less far. set-goes v.holder l j; next = omega arith }

goes-ended : (n : ℕ) (v : View) (l k l0 : ℕ) → Goes v (ended n v l k) l0
goes-ended n v l k l0 = record { goes = λ j less far. set-goes v.holder l j; next = omega arith }

goes-swept : (v : View) (l0 : ℕ) → Goes v (swept v) l0
goes-swept v l0 = record { goes = λ j less far. inl refl; next = omega arith }

goes-stored : (n : ℕ) (v : View) (k id : ℕ) (bytes : Command) (a : Answer) (l0 : ℕ) → Goes v (storing n v k id bytes a) l0
goes-stored n v k id bytes a l0 = record { goes = λ j less far. inl refl; next = omega arith }

goes-adopted : (n : ℕ) (v : View) (l0 k m : ℕ) → Goes v (adopted n v l0 k m) l0
goes-adopted n v l0 k m =
    record {
      goes = λ l less far. subst (λ x. (x ≡ v.holder l) ⊎ (x ≡ None)) (sym (set-off (λ j. cond (is_some_of m (v.holder j)) None (v.holder j)) l0 (Some m) l far))
          (cond_both (is_some_of m (v.holder l)) None (v.holder l) (λ x. (x ≡ v.holder l) ⊎ (x ≡ None)) (λ e. inr refl) (λ e. inl refl));
      next = omega arith;
    }

goes-pulse : (n : ℕ) (v v' : View) (l0 : ℕ) → (v' ≡ v) ⊎ ((v' ≡ swept v) × ((j : ℕ) → v.holder j ≢ Some n)) → Goes v v' l0
goes-pulse n v v' l0 (inl e) = goes-same v v' l0 e
goes-pulse n v v' l0 (inr (e, none)) = goes-to v (swept v) v' l0 e (goes-swept v l0)

goes-lost : (n : ℕ) (v v' : View) (l k l0 : ℕ) → (v' ≡ ended n v l k) ⊎ (v' ≡ detached v l) → Goes v v' l0
goes-lost n v v' l k l0 (inl e) = goes-to v (ended n v l k) v' l0 e (goes-ended n v l k l0)
goes-lost n v v' l k l0 (inr e) = goes-to v (detached v l) v' l0 e (goes-detached v l l0)

goes-open : (n : ℕ) (v v' : View) (l0 : ℕ) (t : Told) → ((t ≡ Opened v.next) × (v' ≡ opened n v)) ⊎ ((a : Answer) × (t ≡ Reply a false) × (is_fine a ≡ false) × (v' ≡ v)) → Goes v v' l0
goes-open n v v' l0 t (inl (told, e)) = goes-to v (opened n v) v' l0 e (goes-opened n v l0)
goes-open n v v' l0 t (inr (a, told, bad, e)) = goes-same v v' l0 e

goes-call : (token : ℕ → List ℕ) (n : ℕ) (v : View) (l k id : ℕ) (body : Body) (o : Outcome) (t : Told) (v' : View) → CallLaw token n v l k id body o t v' → Goes v v' l
goes-call token n v l k id Login o t v' (a, law) = goes-same v v' l law.left
goes-call token n v l k id Token o t v' (a, law, is) = goes-same v v' l law.left
goes-call token n v l k id (Rejoin x) o t v' (inl (a, law, bad)) = goes-same v v' l law.left
goes-call token n v l k id (Rejoin x) o t v' (inr (m, b, law)) = goes-to v (adopted n v l k m) v' l law.left (goes-adopted n v l k m)
goes-call token n v l k id (Does Logout) o t v' (b, told, left, ran) = goes-to v (ended n v l k) v' l left (goes-ended n v l k l)
goes-call token n v l k id (Does (Bytes bytes)) o t v' (inl (a, law)) = goes-same v v' l law.left
goes-call token n v l k id (Does (Bytes bytes)) o t v' (inr (inl law)) = goes-same v v' l law.left
goes-call token n v l k id (Does (Bytes bytes)) o t v' (inr (inr (a, law))) = goes-to v (storing n v k id bytes a) v' l law.left (goes-stored n v k id bytes a l)

pub goes-ask : (token : ℕ → List ℕ) (n : ℕ) (v : View) (l : ℕ) (h : Option ℕ) (ask : Ask) (o : Outcome) (t : Told) (v' : View) → AskLaw token n v l h ask o t v' → Goes v v' l
goes-ask token n v l h Open o t v' law = goes-open n v v' l t law
goes-ask token n v l None (Calls id body) o t v' law = goes-same v v' l law.1
goes-ask token n v l (Some k) (Calls id body) o t v' law = goes-call token n v l k id body o t v' law
goes-ask token n v l None (Sends id sent) o t v' law = goes-same v v' l law.1
goes-ask token n v l (Some k) (Sends id sent) o t v' law = goes-call token n v l k id (body_of sent) o t v' law
goes-ask token n v l h Pulse o t v' law = goes-pulse n v v' l law.1
goes-ask token n v l None Bye o t v' law = goes-same v v' l law.1
goes-ask token n v l (Some k) Bye o t v' law = goes-to v (ended n v l k) v' l law.1 (goes-ended n v l k l)
goes-ask token n v l None Lost o t v' law = goes-same v v' l law.1
goes-ask token n v l (Some k) Lost o t v' law = goes-lost n v v' l k l law.1
goes-ask token n v l h Drain o t v' law = goes-same v v' l law.1

pub passes-goes : (n : ℕ) (v v' : View) (l0 : ℕ) → Passes n v v' l0 → Goes v v' l0
passes-goes n v v' l0 p = record { goes = p.goes; next = p.next }

-- ---- the invariant

-- what is under way: nothing of a command, and a token only of the session of the link's number
abbrev pub EarlySlot : (ℕ → List ℕ) → Option ℕ → Slot → Type 0
EarlySlot token number Idle = Unit {0}
EarlySlot token number (Coming Opens) = Unit {0}
EarlySlot token number (Coming (Asks id Login again)) = Unit {0}
EarlySlot token number (Coming (Asks id Token again)) = Unit {0}
EarlySlot token number (Coming (Asks id (Rejoin x) again)) = ⊥
EarlySlot token number (Coming (Asks id (Does call) again)) = ⊥
EarlySlot token number (Going Opens a) = Unit {0}
EarlySlot token number (Going (Asks id Login again) a) = Unit {0}
EarlySlot token number (Going (Asks id Token again) a) = (b : List ℕ) → a ≡ Fine b → (l : ℕ) × (number ≡ Some l) × (token_in b ≡ Some (token l))
EarlySlot token number (Going (Asks id (Rejoin x) again) a) = Unit {0}
EarlySlot token number (Going (Asks id (Does call) again) a) = Unit {0}

abbrev pub TokenSlot : Slot → Type 0
TokenSlot Idle = Unit {0}
TokenSlot (Coming Opens) = ⊥
TokenSlot (Coming (Asks id Login again)) = ⊥
TokenSlot (Coming (Asks id Token again)) = Unit {0}
TokenSlot (Coming (Asks id (Rejoin x) again)) = ⊥
TokenSlot (Coming (Asks id (Does call) again)) = ⊥
TokenSlot (Going Opens a) = ⊥
TokenSlot (Going (Asks id Login again) a) = ⊥
TokenSlot (Going (Asks id Token again) a) = Unit {0}
TokenSlot (Going (Asks id (Rejoin x) again) a) = ⊥
TokenSlot (Going (Asks id (Does call) again) a) = ⊥

abbrev pub EarlyStage : Stage → Slot → Type 0
EarlyStage Opening slot = Unit {0}
EarlyStage Entering slot = Unit {0}
EarlyStage Joining slot = TokenSlot slot
EarlyStage Ready slot = ⊥
EarlyStage Gone slot = Unit {0}

-- whose the number n is: nobody's yet, a link's of the client, or another's
pub data Origin (n : ℕ) (v : View) (links : ℕ → Link) (done : List Done) : Type 0 where
  undrawn : v.next ≤ n → done ≡ [] → Origin n v links done
  ours : (j : ℕ) → (links j).number ≡ Some n → ((l : ℕ) → v.holder l ≡ Some n → l ≡ n) → v.cache ≡ [] → done ≡ [] → n < v.next → Origin n v links done
  foreign : n < v.next → ((j : ℕ) → (links j).number ≢ Some n) → Origin n v links done

pub record Numbers (next : ℕ) (links : ℕ → Link) (top : ℕ) : Type 0 where
  pub apart : (i j l : ℕ) → (links i).number ≡ Some l → (links j).number ≡ Some l → i ≡ j
  pub drawn : (i l : ℕ) → (links i).number ≡ Some l → l < next
  pub later : (j : ℕ) → top < j → ((links j).number ≡ None) × ((links j).slot ≡ Idle)

pub record EarlyLink (token : ℕ → List ℕ) (v : View) (link : Link) : Type 0 where
  pub got : link.got ≡ false
  pub slot : EarlySlot token link.number link.slot
  pub holds : (l k : ℕ) → link.number ≡ Some l → v.holder l ≡ Some k → k ≡ l

pub record EarlyRun {W : Type 0} {Sound : W → Type 0} (s : Server W Sound) (n : ℕ) (w0 : W) (run : Run W) : Type 0 where
  pub small : n < numbers_end
  pub stands : Stands s w0 run
  pub token : run.client.token ≡ None
  pub wait : run.client.wait ≡ None
  pub results : run.client.results ≡ []
  pub stage : EarlyStage run.client.stage (run.links run.top).slot
  pub numbers : Numbers (view_of s n run).next run.links run.top
  pub each : (j : ℕ) → EarlyLink s.token (view_of s n run) (run.links j)
  pub origin : Origin n (view_of s n run) run.links (effective s.machine n w0 run.history)

-- ---- an entry more

origin-more : (n : ℕ) (v v' : View) (l0 : ℕ) (links : ℕ → Link) (done done' : List Done) (next : v.next ≤ v'.next)
    → ((j l : ℕ) → (links j).number ≡ Some l → l < v.next)
    → (v.next ≤ n → done ≡ [] → done' ≡ [])
    → ((j : ℕ) → (links j).number ≡ Some n → n < v.next → ((l : ℕ) → v.holder l ≡ Some n → l ≡ n) → Passes n v v' l0 × (done ≡ done'))
    → Origin n v links done → Origin n v' links done'
origin-more n v v' l0 links done done' next drawn none passes (undrawn before empty) =
    elim (cases_lt v'.next (suc n)) [
      | inl less ↦ undrawn (omega arith) (none before empty)
      | inr more ↦ foreign (omega arith) (λ j is. absurd (let less = drawn j n is in omega arith))
    ]
origin-more n v v' l0 links done done' next drawn none passes (ours j is back empty nothing there) =
    let p = passes j is there back in
    ours j is (λ l h. back l (p.0.new l h)) (gone p.0.rest) (sym p.1 ∙ nothing) (omega arith)
  where
    gone : ((v'.alive ≡ v.alive) × (v'.cache ≡ v.cache)) ⊎ ((v'.alive ≡ false) × (v'.cache ≡ [])) → v'.cache ≡ []
    gone (inl same) = same.1 ∙ empty
    gone (inr away) = away.1
origin-more n v v' l0 links done done' next drawn none passes (foreign there others) = foreign (omega arith) others

pub early-link : (token : ℕ → List ℕ) (v v' : View) (l0 : ℕ) (link : Link) → Goes v v' l0 → ((l : ℕ) → link.number ≡ Some l → (l < v.next) × (l ≡ l0 → ⊥)) → EarlyLink token v link → EarlyLink token v' link
early-link token v v' l0 link g known h =
    record {
      got = h.got;
      slot = h.slot;
      holds = λ l k is holds. elim (g.goes l (known l is).0 (known l is).1) [
        | inl same ↦ h.holds l k is (sym same ∙ holds)
        | inr none ↦ absurd (let e : None ≡ Some k = sym none ∙ holds in cc)
      ];
    }

pub early-tells : {W : Type 0} {Sound : W → Type 0} (s : Server W Sound) (n : ℕ) (w0 : W) (run : Run W) (e : Entry) (l0 : ℕ)
    → s.is_legal run.world e ≡ true
    → Goes (view_of s n run) (s.view (s.after run.world e) n) l0
    → ((i : ℕ) → (run.links i).number ≢ Some l0)
    → ((view_of s n run).next ≤ n → picked_of s.machine n run.world e ≡ [])
    → ((j : ℕ) → (run.links j).number ≡ Some n → n < (view_of s n run).next → ((l : ℕ) → (view_of s n run).holder l ≡ Some n → l ≡ n) → Passes n (view_of s n run) (s.view (s.after run.world e) n) l0 × (picked_of s.machine n run.world e ≡ []))
    → EarlyRun s n w0 run → EarlyRun s n w0 (tells s.machine run e)
early-tells s n w0 run e l0 legal g other none passes h =
    record {
      small = h.small;
      stands = stands-more s w0 run e legal h.stands;
      token = h.token;
      wait = h.wait;
      results = h.results;
      stage = h.stage;
      numbers = record { apart = h.numbers.apart; drawn = λ i l is. let less = h.numbers.drawn i l is in let next = g.next in omega arith; later = h.numbers.later };
      each = λ j. early-link s.token (view_of s n run) (s.view (s.after run.world e) n) l0 (run.links j) g (λ l is. (h.numbers.drawn j l is, λ same. other j (is ∙ ap (λ k. Some k) same))) (h.each j);
      origin = origin-more n (view_of s n run) (s.view (s.after run.world e) n) l0 run.links (effective s.machine n w0 run.history) (effective s.machine n w0 (run.history ++ e ∷ [])) g.next h.numbers.drawn
          (λ before empty. sym (effective-none s n w0 run e h.stands (none before)) ∙ empty)
          (λ j is there back. let p = passes j is there back in (p.0, effective-none s n w0 run e h.stands p.1))
          h.origin;
    }

pub early-next : {W : Type 0} {Sound : W → Type 0} (s : Server W Sound) (n : ℕ) (w0 : W) (run : Run W) → EarlyRun s n w0 run → (i : ℕ) → (run.links i).number ≢ Some (view_of s n run).next
early-next s n w0 run h i is = absurd (let less = h.numbers.drawn i (view_of s n run).next is in omega arith)

-- the numbers of the client's links are numbers of links
pub early-within : {W : Type 0} {Sound : W → Type 0} (s : Server W Sound) (n : ℕ) (w0 : W) (run : Run W) (i l : ℕ) → EarlyRun s n w0 run → (run.links i).number ≡ Some l → l < numbers_end
early-within s n w0 run i l h is = let less = h.numbers.drawn i l is in let ends = s.drawn_ends run.world n h.stands.sound in omega arith

-- the session of an undrawn number has no link
pub undrawn-far : {W : Type 0} {Sound : W → Type 0} (s : Server W Sound) (n : ℕ) (w0 : W) (run : Run W) → EarlyRun s n w0 run → (view_of s n run).next ≤ n → (l : ℕ) → (view_of s n run).holder l ≡ Some n → ⊥
undrawn-far s n w0 run h before l is = let less = s.held_is_drawn run.world n l h.stands.sound is in omega arith

pub early-others : {W : Type 0} {Sound : W → Type 0} (s : Server W Sound) (n : ℕ) (w0 : W) (run : Run W) (e : Entry) → OthersKeepOut s.machine n run e → EarlyRun s n w0 run → EarlyRun s n w0 (tells s.machine run e)
early-others s n w0 run e out h =
    let v : View = view_of s n run in
    let law = s.answers run.world n e h.stands.sound out.legal in
    early-tells s n w0 run e e.link out.legal (goes-ask s.token n v e.link (v.holder e.link) e.ask e.outcome (s.told run.world e) (s.view (s.after run.world e) n) law) out.apart
    (λ before. others-none n v e.link e.ask e.outcome (s.told run.world e) (undrawn-far s n w0 run h before e.link))
    (λ j is there back.
    let far : v.holder e.link ≡ Some n → ⊥ = λ holds. out.apart j (is ∙ ap (λ k. Some k) (sym (back e.link holds))) in (
      others-pass s.token n v e.link (v.holder e.link) e.ask e.outcome (s.told run.world e) (s.view (s.after run.world e) n) (λ same. absurd (omega arith)) far out.no_token law,
      others-none n v e.link e.ask e.outcome (s.told run.world e) far,
    ))
    h

pub early-parting : {W : Type 0} {Sound : W → Type 0} (s : Server W Sound) (n : ℕ) (w0 : W) (run : Run W) (link moment : ℕ) (ask : Ask) → IsParting ask → link < numbers_end → EarlyRun s n w0 run → EarlyRun s n w0 (tells s.machine run (entry link moment ask Ran))
early-parting s n w0 run link moment ask is within h =
    let v : View = view_of s n run in
    let e : Entry = entry link moment ask Ran in
    let legal = s.ran_is_legal run.world link moment ask within in
    let p : Passes n v (s.view (s.after run.world e) n) v.next = parting-pass s.token n v link v.next ask Ran (s.told run.world e) (s.view (s.after run.world e) n) is (s.answers run.world n e h.stands.sound legal) in
    let none : picked_of s.machine n run.world e ≡ [] = parting-none n v link ask Ran (s.told run.world e) is in
    early-tells s n w0 run e v.next legal (passes-goes n v (s.view (s.after run.world e) n) v.next p) (early-next s n w0 run h) (λ before. none) (λ j number there back. (p, none)) h

pub early-same : {W : Type 0} {Sound : W → Type 0} (s : Server W Sound) (n : ℕ) (w0 : W) (run : Run W) (e : Entry) → s.is_legal run.world e ≡ true → s.view (s.after run.world e) n ≡ view_of s n run → picked_of s.machine n run.world e ≡ [] → EarlyRun s n w0 run → EarlyRun s n w0 (tells s.machine run e)
early-same s n w0 run e legal same none h =
    let v : View = view_of s n run in
    early-tells s n w0 run e v.next legal (goes-same v (s.view (s.after run.world e) n) v.next same) (early-next s n w0 run h) (λ before. none) (λ j number there back. (passes-same n v (s.view (s.after run.world e) n) v.next same, none)) h
