-- The invariant of a run whose client holds the token of n, through what the server's ends and others do.
use Rattle.std.proofs.Common.{◌≡◌, ◌≢◌, ◌∙◌, ◌⊎◌, inl, inr, refl, sym, ap, subst, ℕ, ◌<◌, Bool, true, false, cond, List, [], ◌∷◌, ◌++◌, Option, Some, None, arith, append-nil}
use Rattle.std.specs.Prelude.{not, ◌&&◌, is_none}
use Rattle.std.proofs.lemmas.Bool.{cond_both, ne_eqb, false≢true}
use Rattle.once_across_breaks.specs.once.Messages.{Call, Body, Login, Token, Rejoin, Does, Answer, is_fine, cached_call, Logout, Other as Bytes, body_of}
use Rattle.once_across_breaks.specs.once.Server.{set, Ask, Open, Calls, Pulse, Bye, Lost, Drain, Told, Opened, Reply, Live as Alive, Parted, Displaced, Outcome, Ran, Entry, entry, View, is_some_of, opened, detached, ended, swept, adopted, storing, CallLaw, AskLaw, Server, Sends, numbers_end}
use Rattle.once_across_breaks.specs.once.Run.{Asks, Slot, Idle, Coming, Going, Link, Stage, Opening, Entering, Joining, Ready, Gone, Wait, Run, Wish, with_link, tells, ends_link, drops, quiet_by, quiet_told, quiet, parts}
use Rattle.once_across_breaks.specs.once.Once.{answer_of, is_ran, picked_call, picked, effective, carries, OthersKeepOut, carries_body}
use Rattle.once_across_breaks.proofs.OfOnce.Scene.{Scene, TellsWell, StageOk, Held}
use Rattle.once_across_breaks.proofs.OfOnce.Steps.{upd}
use Rattle.once_across_breaks.proofs.OfOnce.Ends.{rescene, settles, idle-stage, told-again}
use Rattle.once_across_breaks.proofs.OfOnce.Tied.{world_after, after-push, picked_of, effective-push, own_of, Tied, tied-same, Passes, tied-passes, scene_of, held-passes, passes-same, passes-to, passes-swept, passes-detached, passes-ended, passes-stored, passes-opened, passes-adopted}

-- what is known of a run: its world is that behind its history, and sound
pub record Stands {W : Type 0} {Sound : W → Type 0} (s : Server W Sound) (w0 : W) (run : Run W) : Type 0 where
  pub sound : Sound run.world
  pub is : run.world ≡ world_after s.machine w0 run.history

abbrev pub view_of : {W : Type 0} {Sound : W → Type 0} → Server W Sound → ℕ → Run W → View
view_of s n run = s.view run.world n

pub record HeldRun {W : Type 0} {Sound : W → Type 0} (s : Server W Sound) (n : ℕ) (w0 : W) (ex : Option Answer) (run : Run W) : Type 0 where
  pub stands : Stands s w0 run
  pub tied : Tied n (view_of s n run) run.links run.top
  pub held : Held (s.token n) (scene_of n run (view_of s n run) (effective s.machine n w0 run.history) ex)

-- ---- an entry more

pub stands-more : {W : Type 0} {Sound : W → Type 0} (s : Server W Sound) (w0 : W) (run : Run W) (e : Entry) → s.is_legal run.world e ≡ true → Stands s w0 run → Stands s w0 (tells s.machine run e)
stands-more s w0 run e legal st = record { sound = s.stays_sound run.world e st.sound legal; is = ap (λ w. s.after w e) st.is ∙ sym (after-push s w0 run.history e) }

pub effective-more : {W : Type 0} {Sound : W → Type 0} (s : Server W Sound) (n : ℕ) (w0 : W) (run : Run W) (e : Entry) → Stands s w0 run → effective s.machine n w0 (run.history ++ e ∷ []) ≡ effective s.machine n w0 run.history ++ picked_of s.machine n run.world e
effective-more s n w0 run e st = effective-push s n w0 run.history e ∙ ap (λ w. effective s.machine n w0 run.history ++ picked_of s.machine n w e) (sym st.is)

pub effective-none : {W : Type 0} {Sound : W → Type 0} (s : Server W Sound) (n : ℕ) (w0 : W) (run : Run W) (e : Entry) → Stands s w0 run → picked_of s.machine n run.world e ≡ [] → effective s.machine n w0 run.history ≡ effective s.machine n w0 (run.history ++ e ∷ [])
effective-none s n w0 run e st none = sym (effective-more s n w0 run e st ∙ ap (λ ds. effective s.machine n w0 run.history ++ ds) none ∙ append-nil (effective s.machine n w0 run.history))

pub tells-held : {W : Type 0} {Sound : W → Type 0} (s : Server W Sound) (n : ℕ) (w0 : W) (ex : Option Answer) (run : Run W) (e : Entry) (l0 : ℕ)
    → s.is_legal run.world e ≡ true
    → Passes n (view_of s n run) (s.view (s.after run.world e) n) l0
    → ((i : ℕ) → (run.links i).number ≢ Some l0)
    → picked_of s.machine n run.world e ≡ []
    → HeldRun s n w0 ex run → HeldRun s n w0 ex (tells s.machine run e)
tells-held s n w0 ex run e l0 legal p other none h =
    let st = stands-more s w0 run e legal h.stands in
    let v : View = view_of s n run in
    let v' : View = s.view (s.after run.world e) n in
    record {
      stands = st;
      tied = tied-passes n v v' l0 run.links run.top p h.tied;
      held = subst (λ ds. Held (s.token n) (scene_of n run v' ds ex)) (effective-none s n w0 run e h.stands none)
          (held-passes (s.token n) n run v v' l0 (effective s.machine n w0 run.history) ex h.tied p other (λ l. s.held_is_alive (s.after run.world e) n l st.sound) h.held);
    }

-- no link of the client has the next number
pub not-next : (n : ℕ) (v : View) (links : ℕ → Link) (top : ℕ) → Tied n v links top → (i : ℕ) → (links i).number ≢ Some v.next
not-next n v links top t i e = absurd (let less = t.drawn i v.next e in omega arith)

-- ---- a link changes, and keeps its number

pub set-number : (links : ℕ → Link) (i : ℕ) (x : Link) → x.number ≡ (links i).number → (j : ℕ) → (set links i x j).number ≡ (links j).number
set-number links i x same j = upd links i x (λ k l. l.number ≡ (links k).number) same (λ k e. refl) j

pub link-held : {W : Type 0} {Sound : W → Type 0} (s : Server W Sound) (n : ℕ) (w0 : W) (ex : Option Answer) (run : Run W) (i : ℕ) (x : Link)
    → x.number ≡ (run.links i).number
    → Stands s w0 run
    → Tied n (view_of s n run) run.links run.top
    → Held (s.token n) (record { top = run.top; own = λ j. own_of n (view_of s n run).holder (run.links j).number; links = set run.links i x; client = run.client; alive = (view_of s n run).alive; cache = (view_of s n run).cache; done = effective s.machine n w0 run.history; extra = ex })
    → HeldRun s n w0 ex (with_link run i x)
link-held s n w0 ex run i x same st tied h =
    record {
      stands = record { sound = st.sound; is = st.is };
      tied = tied-same n (view_of s n run) run.links (set run.links i x) run.top (set-number run.links i x same) tied;
      held = rescene (s.token n)
          (record { top = run.top; own = λ j. own_of n (view_of s n run).holder (run.links j).number; links = set run.links i x; client = run.client; alive = (view_of s n run).alive; cache = (view_of s n run).cache; done = effective s.machine n w0 run.history; extra = ex })
          (λ j. own_of n (view_of s n run).holder (set run.links i x j).number) (view_of s n run).alive (view_of s n run).cache (effective s.machine n w0 run.history)
          (λ j. ap (own_of n (view_of s n run).holder) (sym (set-number run.links i x same j))) refl refl refl h;
    }

abbrev scene : {W : Type 0} {Sound : W → Type 0} (s : Server W Sound) (n : ℕ) (w0 : W) (ex : Option Answer) (run : Run W) → HeldRun s n w0 ex run → Scene
scene s n w0 ex run h = scene_of n run (view_of s n run) (effective s.machine n w0 run.history) ex

-- a link's end drops what comes
pub drops-held : {W : Type 0} {Sound : W → Type 0} (s : Server W Sound) (n : ℕ) (w0 : W) (ex : Option Answer) (run : Run W) (i : ℕ) → HeldRun s n w0 ex run → HeldRun s n w0 ex (drops run i)
drops-held s n w0 ex run i h =
    link-held s n w0 ex run i (record { number = (run.links i).number; ended = true; slot = Idle; got = (run.links i).got }) refl h.stands h.tied
    (settles (s.token n) (scene s n w0 ex run h) i (record { number = (run.links i).number; ended = true; slot = Idle; got = (run.links i).got }) h.held refl tt (λ c. absurd (false≢true c)) (λ e. refl)
    (λ e. idle-stage (s.token n) run.client.stage run.client.wait ex (run.links i).got (run.links i).slot (subst (λ m. StageOk (s.token n) run.client.stage run.client.wait ex (run.links m).got (run.links m).slot) (sym e) h.held.stage)))

-- it ends
pub ends-held : {W : Type 0} {Sound : W → Type 0} (s : Server W Sound) (n : ℕ) (w0 : W) (ex : Option Answer) (run : Run W) (i : ℕ) → HeldRun s n w0 ex run → HeldRun s n w0 ex (ends_link run i)
ends-held s n w0 ex run i h =
    link-held s n w0 ex run i (record { number = (run.links i).number; ended = true; slot = (run.links i).slot; got = (run.links i).got }) refl h.stands h.tied
    (settles (s.token n) (scene s n w0 ex run h) i (record { number = (run.links i).number; ended = true; slot = (run.links i).slot; got = (run.links i).got }) h.held refl (h.held.each i).coming (λ c. c) (λ e. e)
    (λ e. subst (λ m. StageOk (s.token n) run.client.stage run.client.wait ex (run.links m).got (run.links m).slot) (sym e) h.held.stage))

-- a request of the opening is answered, and n does not come to the link by it
abbrev pub IsOpening : Body → Type 0
IsOpening Login = Unit {0}
IsOpening Token = Unit {0}
IsOpening (Rejoin x) = Unit {0}
IsOpening (Does call) = ⊥

answered-stage : (t : List ℕ) (stage : Stage) (wait : Option Wait) (extra : Option Answer) (got : Bool) (id : ℕ) (body : Body) (again : Bool) (a : Answer) → IsOpening body → (body ≡ Rejoin t → is_fine a ≡ false)
    → StageOk t stage wait extra got (Coming (Asks id body again)) → StageOk t stage wait extra got (Going (Asks id body again) a)
answered-stage t Ready None extra got id body again a op not ok = absurd (let e : Coming (Asks id body again) ≡ Idle = ok.1 in cc)
answered-stage t Ready (Some w) extra got id body again a op not ok = absurd (subst IsOpening ok.1.1 op)
answered-stage t Joining wait extra got id body again a op not ok = λ fine. absurd (false≢true (sym (not ok) ∙ fine))
answered-stage t Opening wait extra got id body again a op not ok = tt
answered-stage t Entering wait extra got id body again a op not ok = tt
answered-stage t Gone wait extra got id body again a op not ok = tt

stage-at : (t : List ℕ) (s : Scene) (i : ℕ) (slot : Slot) → Held t s → (s.links i).slot ≡ slot → i ≡ s.top → StageOk t s.client.stage s.client.wait s.extra (s.links i).got slot
stage-at t s i slot h is e = subst (λ (y : ℕ × Slot). StageOk t s.client.stage s.client.wait s.extra (s.links y.0).got y.1) (λ k. (sym e k, (ap (λ m. (s.links m).slot) (sym e) ∙ is) k)) h.stage

pub answered-held : {W : Type 0} {Sound : W → Type 0} (s : Server W Sound) (n : ℕ) (w0 : W) (ex : Option Answer) (run : Run W) (i id : ℕ) (body : Body) (again ends got : Bool) (a : Answer)
    → IsOpening body → (body ≡ Rejoin (s.token n) → is_fine a ≡ false)
    → (run.links i).slot ≡ Coming (Asks id body again)
    → got ≡ (run.links i).got
    → HeldRun s n w0 ex run
    → HeldRun s n w0 ex (with_link run i (record { number = (run.links i).number; ended = ends; slot = Going (Asks id body again) a; got = got }))
answered-held s n w0 ex run i id body again ends got a op not coming same h =
    let x : Link = record { number = (run.links i).number; ended = ends; slot = Going (Asks id body again) a; got = got } in
    link-held s n w0 ex run i x refl h.stands h.tied
    (settles (s.token n) (scene s n w0 ex run h) i x h.held same tt (λ c. absurd (false≢true c)) (λ e. absurd (let f : Coming (Asks id body again) ≡ Idle = sym coming ∙ e in cc))
    (λ e. answered-stage (s.token n) run.client.stage run.client.wait ex (run.links i).got id body again a op not (stage-at (s.token n) (scene s n w0 ex run h) i (Coming (Asks id body again)) h.held coming e)))

-- a command is told what nothing else changes by
pub again-held : {W : Type 0} {Sound : W → Type 0} (s : Server W Sound) (n : ℕ) (w0 : W) (ex : Option Answer) (run : Run W) (i id : ℕ) (call : Call) (again ends got : Bool) (a : Answer) (h : HeldRun s n w0 ex run)
    → (run.links i).slot ≡ Coming (Asks id (Does call) again)
    → got ≡ (run.links i).got
    → (i ≡ run.top → run.client.stage ≡ Ready → TellsWell ex a)
    → HeldRun s n w0 ex (with_link run i (record { number = (run.links i).number; ended = ends; slot = Going (Asks id (Does call) again) a; got = got }))
again-held s n w0 ex run i id call again ends got a h coming same well =
    let x : Link = record { number = (run.links i).number; ended = ends; slot = Going (Asks id (Does call) again) a; got = got } in
    link-held s n w0 ex run i x refl h.stands h.tied
    (told-again (s.token n) (scene s n w0 ex run h) i id call again a x h.held coming same refl well)

-- ---- others

pub none-picked : (n : ℕ) (v : View) (l id : ℕ) (body : Body) (o : Outcome) (t : Told) → is_some_of n (v.holder l) ≡ false → picked_call n v l id body o t ≡ []
none-picked n v l id Login o t none = refl
none-picked n v l id Token o t none = refl
none-picked n v l id (Rejoin x) o t none = refl
none-picked n v l id (Does call) o t none = ap (λ b. cond (b && (is_ran o && is_none (cached_call v.cache id call))) (record { id = id; call = call; answer = answer_of t } ∷ []) []) none

pub not-some : (n : ℕ) (o : Option ℕ) → (o ≡ Some n → ⊥) → is_some_of n o ≡ false
not-some n None none = refl
not-some n (Some k) none = ne_eqb k n (λ e. none (ap (λ j. Some j) e))

others-call : (token : ℕ → List ℕ) (n : ℕ) (v : View) (l k id : ℕ) (body : Body) (o : Outcome) (t : Told) (v' : View) → (k ≡ n → ⊥) → (carries_body (token n) body → ⊥) → CallLaw token n v l k id body o t v' → Passes n v v' l
others-call token n v l k id Login o t v' far none (a, law) = passes-same n v v' l law.left
others-call token n v l k id Token o t v' far none (a, law, is) = passes-same n v v' l law.left
others-call token n v l k id (Rejoin x) o t v' far none (inl (a, law, bad)) = passes-same n v v' l law.left
others-call token n v l k id (Rejoin x) o t v' far none (inr (m, b, law)) = passes-to n v (adopted n v l k m) v' l law.left (passes-adopted n v l k m (λ e. none (law.is_token ∙ ap token e)) far)
others-call token n v l k id (Does Logout) o t v' far none (b, told, left, ran) = passes-to n v (ended n v l k) v' l left (passes-ended n v l k l)
others-call token n v l k id (Does (Bytes bytes)) o t v' far none (inl (a, law)) = passes-same n v v' l law.left
others-call token n v l k id (Does (Bytes bytes)) o t v' far none (inr (inl law)) = passes-same n v v' l law.left
others-call token n v l k id (Does (Bytes bytes)) o t v' far none (inr (inr (a, law))) = passes-to n v (storing n v k id bytes a) v' l law.left (passes-stored n v k id bytes a l far)

pulse-passes : (n : ℕ) (v v' : View) (l0 : ℕ) → (v' ≡ v) ⊎ ((v' ≡ swept v) × ((j : ℕ) → v.holder j ≢ Some n)) → Passes n v v' l0
pulse-passes n v v' l0 (inl same) = passes-same n v v' l0 same
pulse-passes n v v' l0 (inr (is, none)) = passes-to n v (swept v) v' l0 is (passes-swept n v l0)

open-passes : (n : ℕ) (v v' : View) (l0 : ℕ) (t : Told) → (v.next ≡ n → ⊥) → ((t ≡ Opened v.next) × (v' ≡ opened n v)) ⊎ ((a : Answer) × (t ≡ Reply a false) × (is_fine a ≡ false) × (v' ≡ v)) → Passes n v v' l0
open-passes n v v' l0 t less (inl (told, is)) = passes-to n v (opened n v) v' l0 is (passes-opened n v l0 less)
open-passes n v v' l0 t less (inr (a, told, bad, same)) = passes-same n v v' l0 same

lost-passes : (n : ℕ) (v v' : View) (l k l0 : ℕ) → (v' ≡ ended n v l k) ⊎ (v' ≡ detached v l) → Passes n v v' l0
lost-passes n v v' l k l0 (inl is) = passes-to n v (ended n v l k) v' l0 is (passes-ended n v l k l0)
lost-passes n v v' l k l0 (inr is) = passes-to n v (detached v l) v' l0 is (passes-detached n v l l0)

-- what an ask of others does
pub others-pass : (token : ℕ → List ℕ) (n : ℕ) (v : View) (l : ℕ) (h : Option ℕ) (ask : Ask) (o : Outcome) (t : Told) (v' : View) → (v.next ≡ n → ⊥) → (h ≡ Some n → ⊥) → (carries (token n) ask → ⊥) → AskLaw token n v l h ask o t v' → Passes n v v' l
others-pass token n v l h Open o t v' less far none law = open-passes n v v' l t less law
others-pass token n v l None (Calls id body) o t v' less far none law = passes-same n v v' l law.1
others-pass token n v l (Some k) (Calls id body) o t v' less far none law = others-call token n v l k id body o t v' (λ e. far (ap (λ j. Some j) e)) none law
others-pass token n v l None (Sends id sent) o t v' less far none law = passes-same n v v' l law.1
others-pass token n v l (Some k) (Sends id sent) o t v' less far none law = others-call token n v l k id (body_of sent) o t v' (λ e. far (ap (λ j. Some j) e)) none law
others-pass token n v l h Pulse o t v' less far none law = pulse-passes n v v' l law.1
others-pass token n v l None Bye o t v' less far none law = passes-same n v v' l law.1
others-pass token n v l (Some k) Bye o t v' less far none law = passes-to n v (ended n v l k) v' l law.1 (passes-ended n v l k l)
others-pass token n v l None Lost o t v' less far none law = passes-same n v v' l law.1
others-pass token n v l (Some k) Lost o t v' less far none law = lost-passes n v v' l k l law.1
others-pass token n v l h Drain o t v' less far none law = passes-same n v v' l law.1

pub others-none : (n : ℕ) (v : View) (l : ℕ) (ask : Ask) (o : Outcome) (t : Told) → (v.holder l ≡ Some n → ⊥) → picked n v l ask o t ≡ []
others-none n v l Open o t far = refl
others-none n v l (Calls id body) o t far = none-picked n v l id body o t (not-some n (v.holder l) far)
others-none n v l (Sends id sent) o t far = none-picked n v l id (body_of sent) o t (not-some n (v.holder l) far)
others-none n v l Pulse o t far = refl
others-none n v l Bye o t far = refl
others-none n v l Lost o t far = refl
others-none n v l Drain o t far = refl

pub others-held : {W : Type 0} {Sound : W → Type 0} (s : Server W Sound) (n : ℕ) (w0 : W) (ex : Option Answer) (run : Run W) (e : Entry) → OthersKeepOut s.machine n run e → HeldRun s n w0 ex run → HeldRun s n w0 ex (tells s.machine run e)
others-held s n w0 ex run e out h =
    let v : View = view_of s n run in
    let far : v.holder e.link ≡ Some n → ⊥ = λ is. let x = h.tied.here e.link is in out.apart x.0 x.1 in
    tells-held s n w0 ex run e e.link out.legal
    (others-pass s.token n v e.link (v.holder e.link) e.ask e.outcome (s.told run.world e) (s.view (s.after run.world e) n) (λ same. absurd (let less = h.tied.there in omega arith)) far out.no_token (s.answers run.world n e h.stands.sound out.legal))
    out.apart (others-none n v e.link e.ask e.outcome (s.told run.world e) far) h

-- ---- Pulse, Lost and Bye on a link of the client

-- the numbers of the client's links are numbers of links
pub held-within : {W : Type 0} {Sound : W → Type 0} (s : Server W Sound) (n : ℕ) (w0 : W) (ex : Option Answer) (run : Run W) (i l : ℕ) → HeldRun s n w0 ex run → (run.links i).number ≡ Some l → l < numbers_end
held-within s n w0 ex run i l h is = let less = h.tied.drawn i l is in let ends = s.drawn_ends run.world n h.stands.sound in omega arith

own-pass : (token : ℕ → List ℕ) (n : ℕ) (v : View) (l l0 : ℕ) (h : Option ℕ) (o : Outcome) (t : Told) (v' : View) → AskLaw token n v l h Pulse o t v' → Passes n v v' l0
own-pass token n v l l0 None o t v' law = pulse-passes n v v' l0 law.1
own-pass token n v l l0 (Some k) o t v' law = pulse-passes n v v' l0 law.1

lost-pass : (token : ℕ → List ℕ) (n : ℕ) (v : View) (l l0 : ℕ) (h : Option ℕ) (o : Outcome) (t : Told) (v' : View) → AskLaw token n v l h Lost o t v' → Passes n v v' l0
lost-pass token n v l l0 None o t v' law = passes-same n v v' l0 law.1
lost-pass token n v l l0 (Some k) o t v' law = lost-passes n v v' l k l0 law.1

bye-pass : (token : ℕ → List ℕ) (n : ℕ) (v : View) (l l0 : ℕ) (h : Option ℕ) (o : Outcome) (t : Told) (v' : View) → AskLaw token n v l h Bye o t v' → Passes n v v' l0
bye-pass token n v l l0 None o t v' law = passes-same n v v' l0 law.1
bye-pass token n v l l0 (Some k) o t v' law = passes-to n v (ended n v l k) v' l0 law.1 (passes-ended n v l k l0)

abbrev pub IsParting : Ask → Type 0
IsParting Open = ⊥
IsParting (Calls id body) = ⊥
IsParting (Sends id sent) = ⊥
IsParting Pulse = Unit {0}
IsParting Bye = Unit {0}
IsParting Lost = Unit {0}
IsParting Drain = ⊥

pub parting-pass : (token : ℕ → List ℕ) (n : ℕ) (v : View) (l l0 : ℕ) (ask : Ask) (o : Outcome) (t : Told) (v' : View) → IsParting ask → AskLaw token n v l (v.holder l) ask o t v' → Passes n v v' l0
parting-pass token n v l l0 Open o t v' is law = absurd is
parting-pass token n v l l0 (Calls id body) o t v' is law = absurd is
parting-pass token n v l l0 (Sends id sent) o t v' is law = absurd is
parting-pass token n v l l0 Drain o t v' is law = absurd is
parting-pass token n v l l0 Pulse o t v' is law = own-pass token n v l l0 (v.holder l) o t v' law
parting-pass token n v l l0 Bye o t v' is law = bye-pass token n v l l0 (v.holder l) o t v' law
parting-pass token n v l l0 Lost o t v' is law = lost-pass token n v l l0 (v.holder l) o t v' law

pub parting-none : (n : ℕ) (v : View) (l : ℕ) (ask : Ask) (o : Outcome) (t : Told) → IsParting ask → picked n v l ask o t ≡ []
parting-none n v l Open o t is = refl
parting-none n v l (Calls id body) o t is = absurd is
parting-none n v l (Sends id sent) o t is = absurd is
parting-none n v l Pulse o t is = refl
parting-none n v l Bye o t is = refl
parting-none n v l Lost o t is = refl
parting-none n v l Drain o t is = refl

pub parting-held : {W : Type 0} {Sound : W → Type 0} (s : Server W Sound) (n : ℕ) (w0 : W) (ex : Option Answer) (run : Run W) (link moment : ℕ) (ask : Ask) → IsParting ask → link < numbers_end → HeldRun s n w0 ex run → HeldRun s n w0 ex (tells s.machine run (entry link moment ask Ran))
parting-held s n w0 ex run link moment ask is within h =
    let v : View = view_of s n run in
    let e : Entry = entry link moment ask Ran in
    let legal = s.ran_is_legal run.world link moment ask within in
    tells-held s n w0 ex run e v.next legal
    (parting-pass s.token n v link v.next ask Ran (s.told run.world e) (s.view (s.after run.world e) n) is (s.answers run.world n e h.stands.sound legal))
    (not-next n v run.links run.top h.tied) (parting-none n v link ask Ran (s.told run.world e) is) h

quiet-by : {W : Type 0} {Sound : W → Type 0} (s : Server W Sound) (n : ℕ) (w0 : W) (ex : Option Answer) (run : Run W) (i : ℕ) (t : Told) → HeldRun s n w0 ex run → HeldRun s n w0 ex (quiet_by run i t)
quiet-by s n w0 ex run i Displaced h = ends-held s n w0 ex run i h
quiet-by s n w0 ex run i (Opened link) h = h
quiet-by s n w0 ex run i (Reply a ends) h = h
quiet-by s n w0 ex run i Alive h = h
quiet-by s n w0 ex run i Parted h = h

pub quiet-held : {W : Type 0} {Sound : W → Type 0} (s : Server W Sound) (n : ℕ) (w0 : W) (ex : Option Answer) (run : Run W) (i moment : ℕ) (wish : Wish) (ended : Bool) (number : Option ℕ) → ((l : ℕ) → number ≡ Some l → l < numbers_end) → HeldRun s n w0 ex run → HeldRun s n w0 ex (quiet s.machine run i moment wish ended number)
quiet-held s n w0 ex run i moment wish true number within h = h
quiet-held s n w0 ex run i moment wish false None within h = h
quiet-held s n w0 ex run i moment wish false (Some link) within h =
    cond_both wish.memory run (quiet_told s.machine run i (entry link moment Pulse Ran)) (HeldRun s n w0 ex) (λ e. h)
    (λ e. quiet-by s n w0 ex (tells s.machine run (entry link moment Pulse Ran)) i (s.told run.world (entry link moment Pulse Ran)) (parting-held s n w0 ex run link moment Pulse tt (within link refl) h))

pub parts-held : {W : Type 0} {Sound : W → Type 0} (s : Server W Sound) (n : ℕ) (w0 : W) (ex : Option Answer) (run : Run W) (i moment : ℕ) (wish : Wish) (ask : Ask) (ended : Bool) (number : Option ℕ) → IsParting ask → ((l : ℕ) → number ≡ Some l → l < numbers_end) → HeldRun s n w0 ex run → HeldRun s n w0 ex (parts s.machine run i moment wish ask ended number)
parts-held s n w0 ex run i moment wish ask true number is within h = h
parts-held s n w0 ex run i moment wish ask false None is within h = ends-held s n w0 ex run i h
parts-held s n w0 ex run i moment wish ask false (Some link) is within h =
    ends-held s n w0 ex (cond wish.memory run (tells s.machine run (entry link moment ask Ran))) i
    (cond_both wish.memory run (tells s.machine run (entry link moment ask Ran)) (HeldRun s n w0 ex) (λ e. h) (λ e. parting-held s n w0 ex run link moment ask is (within link refl) h))
