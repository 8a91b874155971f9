-- The invariant through what the server's ends do.
use Rattle.std.proofs.Common.{◌≡◌, ◌≢◌, ◌∙◌, ◌⊎◌, inl, inr, refl, sym, ap, subst, ℕ, suc, ◌<◌, ◌≤◌, Bool, true, false, List, [], ◌∷◌, ◌++◌, length, Option, Some, None, arith, append-nil}
use Rattle.std.proofs.lemmas.Bool.{false≢true, true≢false}
use Rattle.once_across_breaks.specs.once.Messages.{Call, Login, Token, Rejoin, Does, Answer, is_miss, Done, kept, Kept, cached_call, Logout, Other as Bytes}
use Rattle.once_across_breaks.specs.once.Server.{set}
use Rattle.once_across_breaks.specs.once.Run.{Request, Opens, Asks, Slot, Idle, Coming, Going, Link, Stage, Opening, Entering, Joining, Ready, Gone, Wait, id_of}
use Rattle.once_across_breaks.proofs.OfOnce.Scene.{Own, Fresh, Mine, Nobody, IsTaken, Scene, is_command, LiveFor, ComingOk, LinkOk, TellsWell, ReadySlot, StageOk, Spaced, Fits, outstanding, Waits, Work, Held}
use Rattle.once_across_breaks.proofs.OfOnce.Ids.{next-is-new, spaced-fits}
use Rattle.once_across_breaks.proofs.OfOnce.Steps.{upd, no-live}

-- a link stays whose it is, or is nobody's from now on
abbrev pub Fades : Own → Own → Type 0
Fades a b = (b ≡ a) ⊎ (b ≡ Nobody)

pub fades-mine : (a b : Own) → Fades a b → b ≡ Mine → a ≡ Mine
fades-mine a b (inl same) mine = sym same ∙ mine
fades-mine a b (inr nobody) mine = absurd (let e : Nobody ≡ Mine = sym nobody ∙ mine in cc)

fades-taken : (a b : Own) → Fades a b → IsTaken a → IsTaken b
fades-taken a b (inl same) taken = subst IsTaken (sym same) taken
fades-taken a b (inr nobody) taken = subst IsTaken (sym nobody) tt

faded-slot : (t : List ℕ) (wait : Option Wait) (own own' : Own) (got : Bool) (slot : Slot) → (own' ≡ Mine → own ≡ Mine) → ComingOk t wait own got slot → ComingOk t wait own' got slot
faded-slot t wait own own' got (Coming (Asks id (Does call) again)) back ok = (ok.0, λ mine. ok.1 (back mine))
faded-slot t wait own own' got (Coming (Asks id (Rejoin x) again)) back ok = ok
faded-slot t wait own own' got (Coming (Asks id Login again)) back ok = tt
faded-slot t wait own own' got (Coming (Asks id Token again)) back ok = tt
faded-slot t wait own own' got (Coming Opens) back ok = tt
faded-slot t wait own own' got Idle back ok = tt
faded-slot t wait own own' got (Going r a) back ok = tt

faded-link : (t : List ℕ) (alive alive' : Bool) (wait : Option Wait) (own own' : Own) (link : Link) → Fades own own' → (own' ≡ Mine → alive' ≡ true) → LinkOk t alive wait own link → LinkOk t alive' wait own' link
faded-link t alive alive' wait own own' link fades lives ok =
    record {
      got_own = λ got. fades-taken own own' fades (ok.got_own got);
      own_got = λ mine. ok.own_got (fades-mine own own' fades mine);
      own_alive = lives;
      coming = faded-slot t wait own own' link.got link.slot (fades-mine own own' fades) ok.coming;
    }

-- links fade, and n goes on, or is gone
pub fades : (t : List ℕ) (s : Scene) (own' : ℕ → Own) (alive' : Bool) (cache' : List Kept)
    → Held t s
    → ((j : ℕ) → Fades (s.own j) (own' j))
    → ((j : ℕ) → own' j ≡ Mine → alive' ≡ true)
    → Work s.client.first s.client.drawn s.client.row s.client.wait alive' cache' s.extra
    → length cache' ≤ 32
    → Held t (record { top = s.top; own = own'; links = s.links; client = s.client; alive = alive'; cache = cache'; done = s.done; extra = s.extra })
fades t s own' alive' cache' h fade lives work short =
    record {
      token = h.token;
      later = h.later;
      each = λ j. faded-link t s.alive alive' s.client.wait (s.own j) (own' j) (s.links j) (fade j) (lives j) (h.each j);
      front = λ i j less mine command. h.front i j less (fades-mine (s.own i) (own' i) (fade i) mine) command;
      stage = h.stage;
      effects = h.effects;
      work = work;
      short = short;
    }

pub work-gone : (first drawn row : ℕ) (wait : Option Wait) (alive : Bool) (cache : List Kept) (extra : Option Answer) → Work first drawn row wait alive cache extra → Work first drawn row wait false [] extra
work-gone first drawn row None alive cache extra w = record { no_extra = w.no_extra; fits = tt }
work-gone first drawn row (Some x) alive cache None w = record { count = w.count; id = w.id; fits = tt }
work-gone first drawn row (Some x) alive cache (Some a) w = record { count = w.count; id = w.id; no_miss = w.no_miss; kept_it = λ e. absurd (false≢true e); fits = tt }

-- a link's end replies, drops what comes, or ends
pub settles : (t : List ℕ) (s : Scene) (i : ℕ) (x : Link)
    → Held t s
    → x.got ≡ (s.links i).got
    → ComingOk t s.client.wait (s.own i) (s.links i).got x.slot
    → (is_command x.slot ≡ true → is_command (s.links i).slot ≡ true)
    → ((s.links i).slot ≡ Idle → x.slot ≡ Idle)
    → (i ≡ s.top → StageOk t s.client.stage s.client.wait s.extra (s.links i).got x.slot)
    → Held t (record { top = s.top; own = s.own; links = set s.links i x; client = s.client; alive = s.alive; cache = s.cache; done = s.done; extra = s.extra })
settles t s i x h got coming command idle stage =
    record {
      token = h.token;
      later = λ j more. upd s.links i x (λ k l. s.top < k → (l.got ≡ false) × (l.slot ≡ Idle)) (λ less. (got ∙ (h.later i less).0, idle (h.later i less).1)) (λ k other less. h.later k less) j more;
      each = upd s.links i x (λ j l. LinkOk t s.alive s.client.wait (s.own j) l)
          (record { got_own = λ e. (h.each i).got_own (sym got ∙ e); own_got = λ mine. got ∙ (h.each i).own_got mine; own_alive = (h.each i).own_alive; coming = subst (λ g. ComingOk t s.client.wait (s.own i) g x.slot) (sym got) coming })
          (λ j other. h.each j);
      front = λ a b less mine c.
          same_got b ∙ h.front a b less mine (upd s.links i x (λ k l. is_command l.slot ≡ true → is_command (s.links k).slot ≡ true) command (λ k other e. e) a c);
      stage = upd s.links i x (λ k l. k ≡ s.top → StageOk t s.client.stage s.client.wait s.extra l.got l.slot)
          (λ e. subst (λ g. StageOk t s.client.stage s.client.wait s.extra g x.slot) (sym got) (stage e))
          (λ k other e. subst (λ m. StageOk t s.client.stage s.client.wait s.extra (s.links m).got (s.links m).slot) (sym e) h.stage) s.top refl;
      effects = h.effects;
      work = h.work;
      short = h.short;
    }
  where
    same_got : (j : ℕ) → (set s.links i x j).got ≡ (s.links j).got
    same_got j = upd s.links i x (λ k l. l.got ≡ (s.links k).got) got (λ k e. refl) j

-- nothing may be there
idle-ready : (wait : Option Wait) (extra : Option Answer) → ReadySlot wait extra Idle
idle-ready None extra = refl
idle-ready (Some w) extra = tt

pub idle-stage : (t : List ℕ) (stage : Stage) (wait : Option Wait) (extra : Option Answer) (got : Bool) (slot : Slot) → StageOk t stage wait extra got slot → StageOk t stage wait extra got Idle
idle-stage t Ready wait extra got slot ok = (ok.0, idle-ready wait extra)
idle-stage t Joining wait extra got slot ok = tt
idle-stage t Opening wait extra got slot ok = tt
idle-stage t Entering wait extra got slot ok = tt
idle-stage t Gone wait extra got slot ok = tt

-- The session n comes to a link, where DisconnectOldSession was coming: no command comes on the link that n has.
coming-join : (t : List ℕ) (stage : Stage) (wait : Option Wait) (extra : Option Answer) (got : Bool) (id : ℕ) (x : List ℕ) (again : Bool) (r : Request) (a : Answer) → StageOk t stage wait extra got (Coming (Asks id (Rejoin x) again)) → StageOk t stage wait extra true (Going r a)
coming-join t Ready None extra got id x again r a ok = absurd (let e : Coming (Asks id (Rejoin x) again) ≡ Idle = ok.1 in cc)
coming-join t Ready (Some w) extra got id x again r a ok = absurd (let e : Rejoin x ≡ Does w.call = ok.1.1 in cc)
coming-join t Joining wait extra got id x again r a ok = λ fine. refl
coming-join t Opening wait extra got id x again r a ok = tt
coming-join t Entering wait extra got id x again r a ok = tt
coming-join t Gone wait extra got id x again r a ok = tt

pub joins : (t : List ℕ) (s : Scene) (own' : ℕ → Own) (i id : ℕ) (x : List ℕ) (again : Bool) (r : Request) (a : Answer) (link : Link)
    → Held t s
    → (s.links i).slot ≡ Coming (Asks id (Rejoin x) again)
    → link.got ≡ true → link.slot ≡ Going r a
    → own' i ≡ Mine
    → ((j : ℕ) → (j ≡ i → ⊥) → Fades (s.own j) (own' j) × (own' j ≢ Mine))
    → s.alive ≡ true
    → Held t (record { top = s.top; own = own'; links = set s.links i link; client = s.client; alive = s.alive; cache = s.cache; done = s.done; extra = s.extra })
joins t s own' i id x again r a link h coming got going mine others alive =
    record {
      token = h.token;
      later = λ j more. upd s.links i link (λ k l. s.top < k → (l.got ≡ false) × (l.slot ≡ Idle)) (λ less. absurd (let e : Coming (Asks id (Rejoin x) again) ≡ Idle = sym coming ∙ (h.later i less).1 in cc)) (λ k other less. h.later k less) j more;
      each = upd s.links i link (λ j l. LinkOk t s.alive s.client.wait (own' j) l)
          (record { got_own = λ e. subst IsTaken (sym mine) tt; own_got = λ m. got; own_alive = λ m. alive; coming = subst (λ sl. ComingOk t s.client.wait (own' i) link.got sl) (sym going) tt })
          (λ j other. faded-link t s.alive s.alive s.client.wait (s.own j) (own' j) (s.links j) (others j other).0 (λ m. absurd ((others j other).1 m)) (h.each j));
      front = λ p q less m c. absurd (nothing p m c);
      stage = upd s.links i link (λ k l. k ≡ s.top → StageOk t s.client.stage s.client.wait s.extra l.got l.slot)
          (λ e. subst (λ (y : Bool × Slot). StageOk t s.client.stage s.client.wait s.extra y.0 y.1) (λ k. (sym got k, sym going k))
          (coming-join t s.client.stage s.client.wait s.extra (s.links s.top).got id x again r a (subst (λ sl. StageOk t s.client.stage s.client.wait s.extra (s.links s.top).got sl) (ap (λ m. (s.links m).slot) (sym e) ∙ coming) h.stage)))
          (λ k other e. subst (λ m. StageOk t s.client.stage s.client.wait s.extra (s.links m).got (s.links m).slot) (sym e) h.stage) s.top refl;
      effects = h.effects;
      work = h.work;
      short = h.short;
    }
  where
    nothing : (p : ℕ) → own' p ≡ Mine → is_command (set s.links i link p).slot ≡ true → ⊥
    nothing p = upd s.links i link (λ k l. own' k ≡ Mine → is_command l.slot ≡ true → ⊥) (λ m c. true≢false (sym c ∙ ap is_command going)) (λ k other m c. (others k other).1 m) p

-- ---- a command that comes on the link of n

pub record Live (s : Scene) (i id : ℕ) (call : Call) (again : Bool) : Type 0 where
  pub mine : s.own i ≡ Mine
  pub coming : (s.links i).slot ≡ Coming (Asks id (Does call) again)

live-for : (wait : Option Wait) (id : ℕ) (call : Call) → LiveFor wait id call → (w : Wait) × (wait ≡ Some w) × (id ≡ w.id) × (call ≡ w.call)
live-for None id call f = absurd f
live-for (Some w) id call f = (w, refl, f.0, f.1)

-- it is the outstanding one
pub live-wait : (t : List ℕ) (s : Scene) (i id : ℕ) (call : Call) (again : Bool) → Held t s → Live s i id call again → (w : Wait) × (s.client.wait ≡ Some w) × (id ≡ w.id) × (call ≡ w.call)
live-wait t s i id call again h l =
    live-for s.client.wait id call ((subst (λ sl. ComingOk t s.client.wait (s.own i) (s.links i).got sl) l.coming (h.each i).coming).1 l.mine)

-- where nothing is kept for it, it has not acted yet; else what is kept is what it was told
acted-kept : (first drawn row : ℕ) (w : Wait) (alive : Bool) (cache : List Kept) (extra : Option Answer) → Work first drawn row (Some w) alive cache extra → alive ≡ true → cached_call cache w.id w.call ≡ None → extra ≡ None
acted-kept first drawn row w alive cache None work lives none = refl
acted-kept first drawn row w alive cache (Some a) work lives none = absurd (let e : Some a ≡ None = sym (work.kept_it lives) ∙ none in cc)

new-call : (first q row : ℕ) (cache : List Kept) (call : Call) → Fits first q row cache → row < 1900 → length cache ≤ 32 → cached_call cache (id_of first q) call ≡ None
new-call first q row cache Logout f less short = refl
new-call first q row cache (Bytes bytes) f less short = next-is-new first q row cache bytes.sent f less short

kept-acted : (first drawn row : ℕ) (w : Wait) (alive : Bool) (cache : List Kept) (extra : Option Answer) (a : Answer) → Work first drawn row (Some w) alive cache extra → alive ≡ true → row < 1900 → length cache ≤ 32 → cached_call cache w.id w.call ≡ Some a → extra ≡ Some a
kept-acted first drawn row w alive cache None a work lives less short is = absurd (let e : None ≡ Some a = sym (new-call first w.seq row cache w.call work.fits less short) ∙ ap (λ d. cached_call cache d w.call) (sym work.id) ∙ is in cc)
kept-acted first drawn row w alive cache (Some b) a work lives less short is = sym (work.kept_it lives) ∙ is

pub live-none : (t : List ℕ) (s : Scene) (i id : ℕ) (call : Call) (again : Bool) → Held t s → Live s i id call again → cached_call s.cache id call ≡ None → s.extra ≡ None
live-none t s i id call again h l none =
    let w = live-wait t s i id call again h l in
    acted-kept s.client.first s.client.drawn s.client.row w.0 s.alive s.cache s.extra (subst (λ x. Work s.client.first s.client.drawn s.client.row x s.alive s.cache s.extra) w.1 h.work) ((h.each i).own_alive l.mine)
    ((λ k. cached_call s.cache (sym w.2 k) (sym w.3 k)) ∙ none)

pub live-kept : (t : List ℕ) (s : Scene) (i id : ℕ) (call : Call) (again : Bool) (a : Answer) → Held t s → Live s i id call again → s.client.row < 1900 → cached_call s.cache id call ≡ Some a → s.extra ≡ Some a
live-kept t s i id call again a h l less is =
    let w = live-wait t s i id call again h l in
    kept-acted s.client.first s.client.drawn s.client.row w.0 s.alive s.cache s.extra a (subst (λ x. Work s.client.first s.client.drawn s.client.row x s.alive s.cache s.extra) w.1 h.work) ((h.each i).own_alive l.mine) less h.short
    ((λ k. cached_call s.cache (sym w.2 k) (sym w.3 k)) ∙ is)

-- what it is told may stand on the newest link
told-stage : (t : List ℕ) (stage : Stage) (wait : Option Wait) (extra : Option Answer) (got : Bool) (id : ℕ) (call : Call) (again : Bool) (a : Answer) → StageOk t stage wait extra got (Coming (Asks id (Does call) again)) → TellsWell extra a → StageOk t stage wait extra got (Going (Asks id (Does call) again) a)
told-stage t Ready None extra got id call again a ok well = absurd (let e : Coming (Asks id (Does call) again) ≡ Idle = ok.1 in cc)
told-stage t Ready (Some w) extra got id call again a ok well = (ok.0, (ok.1.0, ok.1.1, well))
told-stage t Joining wait extra got id call again a ok well = absurd (let e : Does call ≡ Rejoin t = ok in cc)
told-stage t Opening wait extra got id call again a ok well = tt
told-stage t Entering wait extra got id call again a ok well = tt
told-stage t Gone wait extra got id call again a ok well = tt

-- It is told what is kept, MiscErr or -108: nothing else changes.
pub told-again : (t : List ℕ) (s : Scene) (i id : ℕ) (call : Call) (again : Bool) (a : Answer) (link : Link)
    → Held t s
    → (s.links i).slot ≡ Coming (Asks id (Does call) again)
    → link.got ≡ (s.links i).got → link.slot ≡ Going (Asks id (Does call) again) a
    → (i ≡ s.top → s.client.stage ≡ Ready → TellsWell s.extra a)
    → Held t (record { top = s.top; own = s.own; links = set s.links i link; client = s.client; alive = s.alive; cache = s.cache; done = s.done; extra = s.extra })
told-again t s i id call again a link h coming got going well =
    settles t s i link h got
    (subst (λ sl. ComingOk t s.client.wait (s.own i) (s.links i).got sl) (sym going) tt)
    (λ c. absurd (false≢true (ap is_command (sym going) ∙ c)))
    (λ idle. absurd (let e : Coming (Asks id (Does call) again) ≡ Idle = sym coming ∙ idle in cc))
    (λ e. subst (λ sl. StageOk t s.client.stage s.client.wait s.extra (s.links i).got sl) (sym going) (at_stage s.client.stage (well e) (subst (λ (y : ℕ × Slot). StageOk t s.client.stage s.client.wait s.extra (s.links y.0).got y.1) (λ k. (sym e k, (ap (λ m. (s.links m).slot) (sym e) ∙ coming) k)) h.stage)))
  where
    at_stage : (st : Stage) → (st ≡ Ready → TellsWell s.extra a) → StageOk t st s.client.wait s.extra (s.links i).got (Coming (Asks id (Does call) again)) → StageOk t st s.client.wait s.extra (s.links i).got (Going (Asks id (Does call) again) a)
    at_stage Ready w ok = told-stage t Ready s.client.wait s.extra (s.links i).got id call again a ok (w refl)
    at_stage Joining w ok = absurd (let e : Does call ≡ Rejoin t = ok in cc)
    at_stage Opening w ok = tt
    at_stage Entering w ok = tt
    at_stage Gone w ok = tt

-- A command has its effect: it is the outstanding one, and has it for the first time.
acted-here : (t : List ℕ) (stage : Stage) (wait : Option Wait) (got : Bool) (id : ℕ) (call : Call) (again : Bool) (a : Answer) → StageOk t stage wait None got (Coming (Asks id (Does call) again)) → StageOk t stage wait (Some a) got (Going (Asks id (Does call) again) a)
acted-here t Ready None got id call again a ok = absurd (let e : Coming (Asks id (Does call) again) ≡ Idle = ok.1 in cc)
acted-here t Ready (Some w) got id call again a ok = (ok.0, (ok.1.0, ok.1.1, refl))
acted-here t Joining wait got id call again a ok = absurd (let e : Does call ≡ Rejoin t = ok in cc)
acted-here t Opening wait got id call again a ok = tt
acted-here t Entering wait got id call again a ok = tt
acted-here t Gone wait got id call again a ok = tt

acted-elsewhere : (t : List ℕ) (stage : Stage) (wait : Option Wait) (extra extra' : Option Answer) (got : Bool) (slot : Slot) → (got ≡ true → ⊥) → StageOk t stage wait extra got slot → StageOk t stage wait extra' got slot
acted-elsewhere t Ready wait extra extra' got slot none ok = absurd (none ok.0)
acted-elsewhere t Joining wait extra extra' got slot none ok = ok
acted-elsewhere t Opening wait extra extra' got slot none ok = tt
acted-elsewhere t Entering wait extra extra' got slot none ok = tt
acted-elsewhere t Gone wait extra extra' got slot none ok = tt

pub acts : (t : List ℕ) (s : Scene) (own' : ℕ → Own) (alive' : Bool) (cache' : List Kept) (i id : ℕ) (call : Call) (again : Bool) (a : Answer) (link : Link)
    → Held t s → Live s i id call again → s.extra ≡ None → is_miss a ≡ false
    → link.got ≡ (s.links i).got → link.slot ≡ Going (Asks id (Does call) again) a
    → ((j : ℕ) → Fades (s.own j) (own' j))
    → ((j : ℕ) → own' j ≡ Mine → alive' ≡ true)
    → (alive' ≡ true → cached_call cache' id call ≡ Some a)
    → ((q : ℕ) → Spaced s.client.first q s.cache → id ≡ id_of s.client.first q → Fits s.client.first (suc q) 0 cache')
    → length cache' ≤ 32
    → s.client.row < 1900
    → Held t (record { top = s.top; own = own'; links = set s.links i link; client = s.client; alive = alive'; cache = cache'; done = s.done ++ record { id = id; call = call; answer = a } ∷ []; extra = Some a })
acts t s own' alive' cache' i id call again a link h l none no_miss got going fade lives found fits short less =
    record {
      token = h.token;
      later = λ j more. upd s.links i link (λ k l. s.top < k → (l.got ≡ false) × (l.slot ≡ Idle)) (λ less. absurd (let e : Coming (Asks id (Does call) again) ≡ Idle = sym l.coming ∙ (h.later i less).1 in cc)) (λ k other less. h.later k less) j more;
      each = upd s.links i link (λ j x. LinkOk t alive' s.client.wait (own' j) x)
          (record { got_own = λ e. (there i).got_own (sym got ∙ e); own_got = λ m. got ∙ (there i).own_got m; own_alive = lives i; coming = subst (λ sl. ComingOk t s.client.wait (own' i) link.got sl) (sym going) tt })
          (λ j other. there j);
      front = λ p q before m c.
          same_got q ∙ h.front p q before (fades-mine (s.own p) (own' p) (fade p) m) (upd s.links i link (λ k x. is_command x.slot ≡ true → is_command (s.links k).slot ≡ true) (λ e. absurd (false≢true (ap is_command (sym going) ∙ e))) (λ k other e. e) p c);
      stage = upd s.links i link (λ k x. k ≡ s.top → StageOk t s.client.stage s.client.wait (Some a) x.got x.slot)
          (λ e. subst (λ (y : Bool × Slot). StageOk t s.client.stage s.client.wait (Some a) y.0 y.1) (λ k. (sym got k, sym going k))
          (acted-here t s.client.stage s.client.wait (s.links i).got id call again a
          (subst (λ (y : ℕ × Slot × Option Answer). StageOk t s.client.stage s.client.wait y.2 (s.links y.0).got y.1) (λ k. (sym e k, (ap (λ m. (s.links m).slot) (sym e) ∙ l.coming) k, none k)) h.stage)))
          (λ k other e. subst (λ m. StageOk t s.client.stage s.client.wait (Some a) (s.links m).got (s.links m).slot) (sym e)
          (acted-elsewhere t s.client.stage s.client.wait s.extra (Some a) (s.links s.top).got (s.links s.top).slot
          (λ g. no-live t s h g i (λ same. other (e ∙ sym same)) l.mine (ap is_command l.coming)) h.stage)) s.top refl;
      effects = ap (λ xs. xs ++ record { id = id; call = call; answer = a } ∷ []) (h.effects ∙ (λ k. kept s.client.results ++ outstanding (w.1 k) (none k)) ∙ append-nil (kept s.client.results)) ∙ (λ k. kept s.client.results ++ record { id = w.2 k; call = w.3 k; answer = a } ∷ []) ∙ ap (λ x. kept s.client.results ++ outstanding x (Some a)) (sym w.1);
      work = subst (λ x. Work s.client.first s.client.drawn s.client.row x alive' cache' (Some a)) (sym w.1)
          (record {
            count = before.count;
            id = before.id;
            no_miss = no_miss;
            kept_it = λ e. (λ k. cached_call cache' (sym w.2 k) (sym w.3 k)) ∙ found e;
            fits = subst (λ d. Fits s.client.first d 0 cache') (sym before.count) (fits w.0.seq (spaced-fits s.client.first w.0.seq s.client.row s.cache before.fits less) (w.2 ∙ before.id));
          });
      short = short;
    }
  where
    w : (w : Wait) × (s.client.wait ≡ Some w) × (id ≡ w.id) × (call ≡ w.call)
    w = live-wait t s i id call again h l

    before : Waits s.client.first s.client.drawn s.client.row w.0 s.cache
    before = subst (λ (y : Option Wait × Option Answer). Work s.client.first s.client.drawn s.client.row y.0 s.alive s.cache y.1) (λ k. (w.1 k, none k)) h.work

    there : (j : ℕ) → LinkOk t alive' s.client.wait (own' j) (s.links j)
    there j = faded-link t s.alive alive' s.client.wait (s.own j) (own' j) (s.links j) (fade j) (lives j) (h.each j)

    same_got : (j : ℕ) → (set s.links i link j).got ≡ (s.links j).got
    same_got j = upd s.links i link (λ k x. x.got ≡ (s.links k).got) got (λ k e. refl) j

-- OpenSession is answered: the link has another session than n
opens-stage : (t : List ℕ) (stage : Stage) (wait : Option Wait) (extra : Option Answer) (got : Bool) (a : Answer) → StageOk t stage wait extra got (Coming Opens) → StageOk t stage wait extra got (Going Opens a)
opens-stage t Ready None extra got a ok = absurd (let e : Coming Opens ≡ Idle = ok.1 in cc)
opens-stage t Ready (Some w) extra got a ok = absurd ok.1
opens-stage t Joining wait extra got a ok = absurd ok
opens-stage t Opening wait extra got a ok = tt
opens-stage t Entering wait extra got a ok = tt
opens-stage t Gone wait extra got a ok = tt

pub opens-link : (t : List ℕ) (s : Scene) (own' : ℕ → Own) (i : ℕ) (a : Answer) (link : Link)
    → Held t s
    → (s.links i).slot ≡ Coming Opens → s.own i ≡ Fresh
    → link.got ≡ (s.links i).got → link.slot ≡ Going Opens a
    → own' i ≢ Mine
    → ((j : ℕ) → (j ≡ i → ⊥) → own' j ≡ s.own j)
    → Held t (record { top = s.top; own = own'; links = set s.links i link; client = s.client; alive = s.alive; cache = s.cache; done = s.done; extra = s.extra })
opens-link t s own' i a link h coming fresh got going new same =
    record {
      token = h.token;
      later = λ j more. upd s.links i link (λ k l. s.top < k → (l.got ≡ false) × (l.slot ≡ Idle)) (λ less. absurd (let e : Coming Opens ≡ Idle = sym coming ∙ (h.later i less).1 in cc)) (λ k other less. h.later k less) j more;
      each = upd s.links i link (λ j x. LinkOk t s.alive s.client.wait (own' j) x)
          (record { got_own = λ e. absurd (not_got (sym got ∙ e)); own_got = λ m. absurd (new m); own_alive = λ m. absurd (new m); coming = subst (λ sl. ComingOk t s.client.wait (own' i) link.got sl) (sym going) tt })
          (λ j other. subst (λ o. LinkOk t s.alive s.client.wait o (s.links j)) (sym (same j other)) (h.each j));
      front = λ p q less m c.
          same_got q ∙ upd s.links i link (λ k x. own' k ≡ Mine → is_command x.slot ≡ true → k ≡ p → (s.links q).got ≡ false) (λ m c e. absurd (new m)) (λ k other m c e. h.front k q (omega arith) (sym (same k other) ∙ m) c) p m c refl;
      stage = upd s.links i link (λ k l. k ≡ s.top → StageOk t s.client.stage s.client.wait s.extra l.got l.slot)
          (λ e. subst (λ (y : Bool × Slot). StageOk t s.client.stage s.client.wait s.extra y.0 y.1) (λ k. (sym got k, sym going k))
          (opens-stage t s.client.stage s.client.wait s.extra (s.links i).got a (subst (λ (y : ℕ × Slot). StageOk t s.client.stage s.client.wait s.extra (s.links y.0).got y.1) (λ k. (sym e k, (ap (λ m. (s.links m).slot) (sym e) ∙ coming) k)) h.stage)))
          (λ k other e. subst (λ m. StageOk t s.client.stage s.client.wait s.extra (s.links m).got (s.links m).slot) (sym e) h.stage) s.top refl;
      effects = h.effects;
      work = h.work;
      short = h.short;
    }
  where
    not_got : (s.links i).got ≡ true → ⊥
    not_got e = subst IsTaken fresh ((h.each i).got_own e)

    same_got : (j : ℕ) → (set s.links i link j).got ≡ (s.links j).got
    same_got j = upd s.links i link (λ k x. x.got ≡ (s.links k).got) got (λ k e. refl) j

-- the same, otherwise spelt
pub rescene : (t : List ℕ) (s : Scene) (own' : ℕ → Own) (alive' : Bool) (cache' : List Kept) (done' : List Done)
    → ((j : ℕ) → s.own j ≡ own' j) → s.alive ≡ alive' → s.cache ≡ cache' → s.done ≡ done'
    → Held t s
    → Held t (record { top = s.top; own = own'; links = s.links; client = s.client; alive = alive'; cache = cache'; done = done'; extra = s.extra })
rescene t s own' alive' cache' done' own alive cache done h =
    subst (Held t) (λ k. record { top = s.top; own = λ j. own j k; links = s.links; client = s.client; alive = alive k; cache = cache k; done = done k; extra = s.extra }) h
