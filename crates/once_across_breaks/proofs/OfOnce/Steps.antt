-- The invariant through each kind of step.
use Rattle.std.proofs.Common.{◌≡◌, ◌∙◌, inl, inr, refl, sym, ap, subst, ℕ, suc, ◌<◌, Bool, true, false, cond, List, [], ◌∷◌, ◌++◌, Option, Some, None, arith, append-nil}
use Rattle.std.specs.Prelude.{nat_eq, not}
use Rattle.std.proofs.lemmas.Bool.{cond_both, eqb-true, eqb-false, false≢true, true≢false, cases_order}
use Rattle.once_across_breaks.specs.once.Messages.{Call, Login, Token, Rejoin, Does, Answer, Fine, NoMemory, is_miss, Done, kept, Kept}
use Rattle.once_across_breaks.specs.once.Server.{set}
use Rattle.once_across_breaks.specs.once.Run.{Request, Opens, Asks, Slot, Idle, Coming, Going, Link, blank, Stage, Joining, Ready, Wait, Client, id_of, with_slot, draws, with_result, sent_again, again, in_stage}
use Rattle.once_across_breaks.proofs.OfOnce.Scene.{Own, Fresh, Mine, Scene, is_command, ComingOk, LinkOk, TellsWell, ReadySlot, StageOk, Fits, outstanding, Idles, Waits, Work, Held}
use Rattle.once_across_breaks.proofs.OfOnce.Ids.{fits-more}

-- what holds at the changed place and at all others
pub upd : {A : Type 0} (f : ℕ → A) (i : ℕ) (x : A) (P : ℕ → A → Type 0) → P i x → ((j : ℕ) → (j ≡ i → ⊥) → P j (f j)) → (j : ℕ) → P j (set f i x j)
upd f i x P here there j = cond_both (nat_eq j i) x (f j) (P j) (λ e. subst (λ k. P k x) (sym (eqb-true j i e)) here) (λ e. there j (eqb-false j i e))

-- what comes is a command only where it is one that the link's predicate speaks of
rewait-slot : (t : List ℕ) (wait next : Option Wait) (own : Own) (got : Bool) (slot : Slot) → ComingOk t wait own got slot → (own ≡ Mine → is_command slot ≡ true → ⊥) → ComingOk t next own got slot
rewait-slot t wait next own got (Coming (Asks id (Does call) again)) ok none = (ok.0, λ mine. absurd (none mine refl))
rewait-slot t wait next own got (Coming (Asks id (Rejoin x) again)) ok none = ok
rewait-slot t wait next own got (Coming (Asks id Login again)) ok none = tt
rewait-slot t wait next own got (Coming (Asks id Token again)) ok none = tt
rewait-slot t wait next own got (Coming Opens) ok none = tt
rewait-slot t wait next own got Idle ok none = tt
rewait-slot t wait next own got (Going r a) ok none = tt

-- for another outstanding command, where none is coming on the link of n
rewait : (t : List ℕ) (alive : Bool) (wait next : Option Wait) (own : Own) (link : Link) → LinkOk t alive wait own link → (own ≡ Mine → is_command link.slot ≡ true → ⊥) → LinkOk t alive next own link
rewait t alive wait next own link ok none = record { got_own = ok.got_own; own_got = ok.own_got; own_alive = ok.own_alive; coming = rewait-slot t wait next own link.got link.slot ok.coming none }

-- while the newest link is one that n has come to, no command comes on the link of n but there
pub no-live : (t : List ℕ) (s : Scene) → Held t s → (s.links s.top).got ≡ true → (j : ℕ) → (j ≡ s.top → ⊥) → s.own j ≡ Mine → is_command (s.links j).slot ≡ true → ⊥
no-live t s h got j other mine command =
    elim (cases_order j s.top) [
      | inl same ↦ other same
      | inr (inl less) ↦ true≢false (sym got ∙ h.front j s.top less mine command)
      | inr (inr more) ↦ true≢false (sym ((h.each j).own_got mine) ∙ (h.later j more).0)
    ]

-- the client writes on the newest link, or takes what is there
pub writes : (t : List ℕ) (s : Scene) (c : Client) (x : Slot) (extra : Option Answer)
    → Held t s
    → c.token ≡ Some t
    → ComingOk t c.wait (s.own s.top) (s.links s.top).got x
    → ((j : ℕ) → (j ≡ s.top → ⊥) → LinkOk t s.alive c.wait (s.own j) (s.links j))
    → StageOk t c.stage c.wait extra (s.links s.top).got x
    → s.done ≡ kept c.results ++ outstanding c.wait extra
    → Work c.first c.drawn c.row c.wait s.alive s.cache extra
    → Held t (record { top = s.top; own = s.own; links = set s.links s.top (with_slot (s.links s.top) x); client = c; alive = s.alive; cache = s.cache; done = s.done; extra = extra })
writes t s c x extra h token here there stage effects work =
    record {
      token = token;
      later = λ j more. (got j ∙ (h.later j more).0, cond_both (nat_eq j s.top) top (s.links j) (λ l. l.slot ≡ Idle) (λ e. absurd (let same = eqb-true j s.top e in omega arith)) (λ e. (h.later j more).1));
      each = upd s.links s.top top (λ j l. LinkOk t s.alive c.wait (s.own j) l) (record { got_own = (h.each s.top).got_own; own_got = (h.each s.top).own_got; own_alive = (h.each s.top).own_alive; coming = here }) there;
      front = λ i j less mine command. got j ∙ cond_both (nat_eq i s.top) top (s.links i) (λ l. is_command l.slot ≡ true → (s.links j).got ≡ false)
          (λ e c. (h.later j (subst (λ k. k < j) (eqb-true i s.top e) less)).0) (λ e c. h.front i j less mine c) command;
      stage = subst (λ (l : Link). StageOk t c.stage c.wait extra l.got l.slot) (sym at_top) stage;
      effects = effects;
      work = work;
      short = h.short;
    }
  where
    top : Link
    top = with_slot (s.links s.top) x

    got : (j : ℕ) → (set s.links s.top top j).got ≡ (s.links j).got
    got j = upd s.links s.top top (λ k l. l.got ≡ (s.links k).got) refl (λ k e. refl) j

    at_top : set s.links s.top top s.top ≡ top
    at_top = upd s.links s.top top (λ k l. k ≡ s.top → l ≡ top) (λ e. refl) (λ k e same. absurd (e same)) s.top refl

-- ---- the client's steps

-- a list of results with one more
push-by : (b : Bool) (r : Done) (rs more after : List Done) → after ≡ rs ++ more → cond b (r ∷ after) after ≡ cond b (r ∷ rs) rs ++ more
push-by true r rs more after e = ap (λ xs. r ∷ xs) e
push-by false r rs more after e = e

pub kept-push : (rs : List Done) (d : Done) → kept (rs ++ d ∷ []) ≡ kept rs ++ cond (not (is_miss d.answer)) (d ∷ []) []
kept-push [] d = refl
kept-push (r ∷ rs) d = push-by (not (is_miss r.answer)) r (kept rs) (cond (not (is_miss d.answer)) (d ∷ []) []) (kept (rs ++ d ∷ [])) (kept-push rs d)

-- a ready client has s come to its newest link
pub ready-got : (t : List ℕ) (s : Scene) → Held t s → s.client.stage ≡ Ready → ((s.links s.top).got ≡ true) × ReadySlot s.client.wait s.extra (s.links s.top).slot
ready-got t s h ready = subst (λ st. StageOk t st s.client.wait s.extra (s.links s.top).got (s.links s.top).slot) ready h.stage

-- all other links are as they were, for another outstanding command
others-so : (t : List ℕ) (s : Scene) (next : Option Wait) → Held t s → (s.links s.top).got ≡ true → (j : ℕ) → (j ≡ s.top → ⊥) → LinkOk t s.alive next (s.own j) (s.links j)
others-so t s next h got j other = rewait t s.alive s.client.wait next (s.own j) (s.links j) (h.each j) (no-live t s h got j other)

-- it asks its next command
pub asks : (t : List ℕ) (s : Scene) (call : Call)
    → Held t s → s.client.stage ≡ Ready → s.client.wait ≡ None
    → Held t (record {
      top = s.top;
      own = s.own;
      alive = s.alive;
      cache = s.cache;
      done = s.done;
      extra = None;
      links = set s.links s.top (with_slot (s.links s.top) (Coming (Asks (id_of s.client.first s.client.drawn) (Does call) false)));
      client = draws s.client call 0 s.client.row s.client.results;
    })
asks t s call h ready none =
    let got = (ready-got t s h ready).0 in
    let work : Idles s.client.first s.client.drawn s.client.row s.cache s.extra = subst (λ w. Work s.client.first s.client.drawn s.client.row w s.alive s.cache s.extra) none h.work in
    let c : Client = draws s.client call 0 s.client.row s.client.results in
    writes t s c (Coming (Asks (id_of s.client.first s.client.drawn) (Does call) false)) None h h.token
    (got, λ mine. (refl, refl))
    (others-so t s c.wait h got)
    (subst (λ st. StageOk t st c.wait None (s.links s.top).got (Coming (Asks (id_of s.client.first s.client.drawn) (Does call) false))) (sym ready) (got, (refl, refl, λ first. refl)))
    (h.effects ∙ ap (λ w. kept s.client.results ++ outstanding w s.extra) none)
    (record { count = refl; id = refl; fits = work.fits })

-- it takes a result
result-effects : (done : List Done) (rs : List Done) (w : Wait) (extra : Option Answer) (a : Answer) → done ≡ kept rs ++ outstanding (Some w) extra → TellsWell extra a
    → (IsSome : (b : Answer) → extra ≡ Some b → is_miss b ≡ false) → done ≡ kept (rs ++ record { id = w.id; call = w.call; answer = a } ∷ []) ++ []
result-effects done rs w None a e well some =
    e ∙ ap (λ b. kept rs ++ cond (not b) (record { id = w.id; call = w.call; answer = a } ∷ []) []) (sym well)
    ∙ sym (kept-push rs (record { id = w.id; call = w.call; answer = a }))
    ∙ sym (append-nil (kept (rs ++ record { id = w.id; call = w.call; answer = a } ∷ [])))
result-effects done rs w (Some b) a e well some =
    e ∙ ap (λ (x : Answer). kept rs ++ record { id = w.id; call = w.call; answer = x } ∷ []) (sym well)
    ∙ ap (λ m. kept rs ++ cond (not m) (record { id = w.id; call = w.call; answer = a } ∷ []) []) (sym (ap is_miss well ∙ some b refl))
    ∙ sym (kept-push rs (record { id = w.id; call = w.call; answer = a }))
    ∙ sym (append-nil (kept (rs ++ record { id = w.id; call = w.call; answer = a } ∷ [])))

result-work : (first drawn row : ℕ) (w : Wait) (alive : Bool) (cache : List Kept) (extra : Option Answer) (a : Answer) → Work first drawn row (Some w) alive cache extra → TellsWell extra a
    → Fits first drawn (cond (is_miss a) (suc row) 0) cache
result-work first drawn row w alive cache None a work well = subst (λ b. Fits first drawn (cond b (suc row) 0) cache) (sym well) (subst (λ d. Fits first d (suc row) cache) (sym work.count) (fits-more first w.seq row cache work.fits))
result-work first drawn row w alive cache (Some b) a work well = subst (λ m. Fits first drawn (cond m (suc row) 0) cache) (sym (ap is_miss well ∙ work.no_miss)) work.fits

some-acts : (first drawn row : ℕ) (w : Wait) (alive : Bool) (cache : List Kept) (extra : Option Answer) → Work first drawn row (Some w) alive cache extra → (b : Answer) → extra ≡ Some b → is_miss b ≡ false
some-acts first drawn row w alive cache None work b e = absurd (cc)
some-acts first drawn row w alive cache (Some x) work b e = let same : x ≡ b = cc in ap is_miss (sym same) ∙ work.no_miss

-- the reply on the newest link tells the outstanding command well
reply-well : (w : Wait) (extra : Option Answer) (r : Request) (a : Answer) → ReadySlot (Some w) extra (Going r a) → TellsWell extra a
reply-well w extra Opens a ok = absurd ok
reply-well w extra (Asks id body again) a ok = ok.2

well-at : (t : List ℕ) (s : Scene) (w : Wait) (r : Request) (a : Answer) → Held t s → s.client.stage ≡ Ready → s.client.wait ≡ Some w → (s.links s.top).slot ≡ Going r a → TellsWell s.extra a
well-at t s w r a h ready waits going = reply-well w s.extra r a (subst (λ (x : Option Wait × Slot). ReadySlot x.0 s.extra x.1) (λ i. (waits i, going i)) (ready-got t s h ready).1)

pub results : (t : List ℕ) (s : Scene) (w : Wait) (r : Request) (a : Answer)
    → Held t s → s.client.stage ≡ Ready → s.client.wait ≡ Some w → (s.links s.top).slot ≡ Going r a
    → Held t (record {
      top = s.top;
      own = s.own;
      alive = s.alive;
      cache = s.cache;
      done = s.done;
      extra = None;
      links = set s.links s.top (with_slot (s.links s.top) Idle);
      client = with_result s.client w a;
    })
results t s w r a h ready waits going =
    let got = (ready-got t s h ready).0 in
    let well : TellsWell s.extra a = well-at t s w r a h ready waits going in
    let work : Work s.client.first s.client.drawn s.client.row (Some w) s.alive s.cache s.extra = subst (λ x. Work s.client.first s.client.drawn s.client.row x s.alive s.cache s.extra) waits h.work in
    writes t s (with_result s.client w a) Idle None h h.token tt
    (others-so t s None h got)
    (subst (λ st. StageOk t st None None (s.links s.top).got Idle) (sym ready) (got, refl))
    (result-effects s.done s.client.results w s.extra a (h.effects ∙ ap (λ x. kept s.client.results ++ outstanding x s.extra) waits) well (some-acts s.client.first s.client.drawn s.client.row w s.alive s.cache s.extra work))
    (record { no_extra = refl; fits = result-work s.client.first s.client.drawn s.client.row w s.alive s.cache s.extra a work well })

-- it sends its command again, under the next id, after -108
retry-none : (first drawn row : ℕ) (w : Wait) (alive : Bool) (cache : List Kept) (extra : Option Answer) → Work first drawn row (Some w) alive cache extra → TellsWell extra NoMemory → extra ≡ None
retry-none first drawn row w alive cache None work well = refl
retry-none first drawn row w alive cache (Some b) work well = absurd (true≢false (ap is_miss well ∙ work.no_miss))

pub retries : (t : List ℕ) (s : Scene) (w : Wait) (r : Request)
    → Held t s → s.client.stage ≡ Ready → s.client.wait ≡ Some w → (s.links s.top).slot ≡ Going r NoMemory
    → Held t (record {
      top = s.top;
      own = s.own;
      alive = s.alive;
      cache = s.cache;
      done = s.done;
      extra = None;
      links = set s.links s.top (with_slot (s.links s.top) (Coming (Asks (id_of s.client.first s.client.drawn) (Does w.call) false)));
      client = sent_again s.client w;
    })
retries t s w r h ready waits going =
    let got = (ready-got t s h ready).0 in
    let c : Client = sent_again s.client w in
    let work : Work s.client.first s.client.drawn s.client.row (Some w) s.alive s.cache s.extra = subst (λ x. Work s.client.first s.client.drawn s.client.row x s.alive s.cache s.extra) waits h.work in
    let none : s.extra ≡ None = retry-none s.client.first s.client.drawn s.client.row w s.alive s.cache s.extra work (well-at t s w r NoMemory h ready waits going) in
    let before : Waits s.client.first s.client.drawn s.client.row w s.cache = subst (λ x. Work s.client.first s.client.drawn s.client.row (Some w) s.alive s.cache x) none work in
    writes t s c (Coming (Asks (id_of s.client.first s.client.drawn) (Does w.call) false)) None h h.token
    (got, λ mine. (refl, refl))
    (others-so t s c.wait h got)
    (subst (λ st. StageOk t st c.wait None (s.links s.top).got (Coming (Asks (id_of s.client.first s.client.drawn) (Does w.call) false))) (sym ready) (got, (refl, refl, λ first. refl)))
    (h.effects ∙ (λ i. kept s.client.results ++ outstanding (waits i) (none i)))
    (record { count = refl; id = refl; fits = subst (λ d. Fits s.client.first d (suc s.client.row) s.cache) (sym before.count) (fits-more s.client.first w.seq s.client.row s.cache before.fits) })

-- a request of the opening is written, or the client is lost
pub opening-moves : (t : List ℕ) (s : Scene) (stage : Stage) (tries id : ℕ) (x : Slot)
    → Held t s
    → ComingOk t s.client.wait (s.own s.top) (s.links s.top).got x
    → StageOk t stage s.client.wait s.extra (s.links s.top).got x
    → Held t (record {
      top = s.top;
      own = s.own;
      alive = s.alive;
      cache = s.cache;
      done = s.done;
      extra = s.extra;
      links = set s.links s.top (with_slot (s.links s.top) x);
      client = record { stage = stage; tries = tries; opening_id = id; token = s.client.token; first = s.client.first; drawn = s.client.drawn; wait = s.client.wait; results = s.client.results; row = s.client.row };
    })
opening-moves t s stage tries id x h here there =
    writes t s (record { stage = stage; tries = tries; opening_id = id; token = s.client.token; first = s.client.first; drawn = s.client.drawn; wait = s.client.wait; results = s.client.results; row = s.client.row }) x s.extra h h.token here (λ j other. h.each j) there h.effects h.work

-- it is ready, and writes its outstanding command again
again-coming : (t : List ℕ) (wait : Option Wait) (own : Own) (got : Bool) → got ≡ true → ComingOk t wait own got (again wait)
again-coming t None own got has = tt
again-coming t (Some w) own got has = (has, λ mine. (refl, refl))

again-ready : (wait : Option Wait) (extra : Option Answer) → ReadySlot wait extra (again wait)
again-ready None extra = refl
again-ready (Some w) extra = (refl, refl, λ first. absurd (true≢false first))

pub readies : (t : List ℕ) (s : Scene) (r : Request) (b : List ℕ)
    → Held t s → s.client.stage ≡ Joining → (s.links s.top).slot ≡ Going r (Fine b)
    → Held t (record {
      top = s.top;
      own = s.own;
      alive = s.alive;
      cache = s.cache;
      done = s.done;
      extra = s.extra;
      links = set s.links s.top (with_slot (s.links s.top) (again s.client.wait));
      client = in_stage s.client Ready;
    })
readies t s r b h joins going =
    let got : (s.links s.top).got ≡ true = (subst (λ (x : Stage × Slot). StageOk t x.0 s.client.wait s.extra (s.links s.top).got x.1) (λ i. (joins i, going i)) h.stage) refl in
    opening-moves t s Ready 0 s.client.opening_id (again s.client.wait) h (again-coming t s.client.wait (s.own s.top) (s.links s.top).got got) (got, again-ready s.client.wait s.extra)

-- it begins the next link
pub begins-link : (t : List ℕ) (s : Scene) (own : ℕ → Own) (stage : Stage)
    → Held t s
    → ((j : ℕ) → (j ≡ suc s.top → ⊥) → own j ≡ s.own j)
    → own (suc s.top) ≡ Fresh
    → StageOk t stage s.client.wait s.extra false (Coming Opens)
    → Held t (record {
      top = suc s.top;
      own = own;
      alive = s.alive;
      cache = s.cache;
      done = s.done;
      extra = s.extra;
      links = set s.links (suc s.top) (with_slot blank (Coming Opens));
      client = record { stage = stage; tries = 0; opening_id = 0; token = s.client.token; first = s.client.first; drawn = s.client.drawn; wait = s.client.wait; results = s.client.results; row = s.client.row };
    })
begins-link t s own stage h same fresh ok =
    record {
      token = h.token;
      later = λ j more. upd s.links (suc s.top) new (λ k l. suc s.top < k → (l.got ≡ false) × (l.slot ≡ Idle)) (λ less. absurd (omega arith)) (λ k other less. h.later k (omega arith)) j more;
      each = upd s.links (suc s.top) new (λ j l. LinkOk t s.alive s.client.wait (own j) l)
          (record { got_own = λ e. absurd (false≢true e); own_got = λ mine. absurd (let e : Fresh ≡ Mine = sym fresh ∙ mine in cc); own_alive = λ mine. absurd (let e : Fresh ≡ Mine = sym fresh ∙ mine in cc); coming = tt })
          (λ j other. subst (λ o. LinkOk t s.alive s.client.wait o (s.links j)) (sym (same j other)) (h.each j));
      front = λ i j less mine command.
          upd s.links (suc s.top) new (λ k l. (k ≡ j) → l.got ≡ false) (λ e. refl)
          (λ k other e. upd s.links (suc s.top) new (λ m l. m ≡ i → is_command l.slot ≡ true → (s.links k).got ≡ false) (λ e c. absurd (false≢true c))
          (λ m different is c. h.front m k (omega arith) (sym (same m different) ∙ ap own is ∙ mine) c) i refl command) j refl;
      stage = subst (λ (l : Link). StageOk t stage s.client.wait s.extra l.got l.slot) (sym (upd s.links (suc s.top) new (λ k l. k ≡ suc s.top → l ≡ new) (λ e. refl) (λ k e same. absurd (e same)) (suc s.top) refl)) ok;
      effects = h.effects;
      work = h.work;
      short = h.short;
    }
  where
    new : Link
    new = with_slot blank (Coming Opens)
