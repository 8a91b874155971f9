-- What is noted where the client takes a reply.
use Rattle.std.proofs.Common.{◌≡◌, ◌≢◌, ◌∙◌, ◌⊎◌, inl, inr, refl, sym, ap, subst, ℕ, suc, ◌+◌, Bool, true, false, List, [], ◌∷◌, ◌++◌, Option, Some, None, arith, append-nil, length-append}
use Rattle.std.specs.Prelude.{if◌then◌else◌, is_some, length, nat_eq, nat_lt, option_map}
use Rattle.std.proofs.lemmas.Bool.{cond_both}
use Rattle.afp_base.specs.declared.code.Code.{Code}
use Rattle.dsi_frame.specs.Frame.{Frame}
use Rattle.afp_client.specs.session.State.{ClientState, Waiting, is_opened}
use Rattle.afp_client.specs.session.Takes.{Step, answers, if_answers, is_ok, is_retried, opened, opening_command, opening_replied, opening_told, ready_reply, refusal, session_told, step, takes, takes_by, takes_reply, waiting_replied, with_id, writes_opening}
use Rattle.afp_client.specs.session.Takes as real
use Rattle.afp_client.specs.declared.session.event.Event.{Event}
use Rattle.afp_client.specs.declared.session.event.Event.TheVariants as events
use Rattle.afp_client.specs.declared.session.stage.OpeningStep.{OpeningStep}
use Rattle.afp_client.specs.declared.session.stage.OpeningStep.TheVariants as steps
use Rattle.afp_client.specs.declared.session.stage.Stage as client_stage
use Rattle.afp_client.specs.declared.session.stage.Stage.TheVariants as stages
use Rattle.dsi_session.specs.RequestIds.{id_after}
use Rattle.once_across_breaks.proofs.OfOnce.Events.{set-at, set-off}
use Rattle.once_across_breaks.specs.once.Frames.{OfCall, OfOpening, Tag, Taken, again_writes, client_takes, opening_taken, reply_taken, step_taken, token_taken, waiting_taken, wrote}
use Rattle.once_across_breaks.specs.once.Messages.{Answer, Does, Done, Fine, MiscErr, NoMemory, Refuses, is_miss, token_in}
use Rattle.once_across_breaks.specs.once.Run.{Asks, Client, Entering, Gone, Joining, Opening, Ready, Request, Stage, Wait, id_of, in_stage, opens_with, same_request, sent_again, with_result}
use Rattle.once_across_breaks.specs.once.Serial.{Setup, answer_by}
use Rattle.once_across_breaks.specs.once.Server.{set}
use Rattle.once_across_breaks_code.specs.client.Related.{IsClient, IsStage, stage_at, waiting_of}
use Rattle.once_across_breaks_code.specs.client.Steps.{IsOne, results_with}
use Rattle.once_across_breaks_code.specs.run.Premises.{Notes, noted_event, row_at_step}
use Rattle.once_across_breaks_code.proofs.OfRun.Allowed.{AreFirst}

-- ---- which events the real client has

abbrev is_ending : Event → Bool
is_ending (events.Refused c) = true
is_ending (events.Lost c) = true
is_ending event = false

-- During an opening: a step, behind which it is not opened; it is ready; or it is refused.
abbrev InOpening : Step → Type 0
InOpening st = ((st.event ≡ events.Step) × (is_opened st.state.stage ≡ false)) ⊎ ((st.event ≡ events.Ready) ⊎ ((is_ending st.event ≡ true) × (is_opened st.state.stage ≡ false)))

abbrev InReady : Step → Type 0
InReady st = (st.event ≡ events.Step) ⊎ ((c : Code) × (block : List ℕ) × (st.event ≡ events.Told c block))

abbrev Kind : client_stage.Stage → Step → Type 0
Kind stages.Unlinked st = ⊥
Kind (stages.Opening at_step id retries) st = InOpening st
Kind stages.Ready st = InReady st
Kind stages.Lost st = ⊥

abbrev IfKind : client_stage.Stage → Option Step → Type 0
IfKind stage None = Unit {0}
IfKind stage (Some st) = Kind stage st

abbrev IfOpening : Option Step → Type 0
IfOpening None = Unit {0}
IfOpening (Some st) = InOpening st

session-kind : (s : ClientState) (token : Option (List ℕ)) (id : ℕ) (payload : List ℕ) → IfOpening (session_told s token id payload)
session-kind s (Some token) id payload = inr (inl refl)
session-kind s None id payload = by (real.token_in payload)
  where
    by : (o : Option (List ℕ)) → IfOpening (option_map (λ token. opened (record s { token = Some token; next_id = id_after id })) o)
    by None = tt
    by (Some token) = inr (inl refl)

told-kind : (s : ClientState) (at_step : OpeningStep) (id : ℕ) (payload : List ℕ) → IfOpening (opening_told s at_step id payload)
told-kind s steps.OpenSession id payload = inl (refl, refl)
told-kind s steps.Login id payload = inl (refl, refl)
told-kind s steps.Session id payload = session-kind s s.token id payload

refusal-ends : (token : Option (List ℕ)) (at_step : OpeningStep) (c : Code) → is_ending (refusal token at_step c) ≡ true
refusal-ends token steps.OpenSession c = refl
refusal-ends token steps.Login c = refl
refusal-ends None steps.Session c = refl
refusal-ends (Some token) steps.Session c = refl

replied-kind : (s : ClientState) (at_step : OpeningStep) (id retries : ℕ) (c : Code) (payload : List ℕ) → IfOpening (opening_replied s at_step id retries c payload)
replied-kind s at_step id retries c payload =
    let lost : Option Step = Some (step (record s { stage = stages.Lost }) None (refusal s.token at_step c)) in
    cond_both (is_retried c retries) (Some (writes_opening s at_step (id_after id) (retries + 1))) (if is_ok c then opening_told s at_step id payload else lost) IfOpening
    (λ e. inl (refl, refl))
    (λ e. cond_both (is_ok c) (opening_told s at_step id payload) lost IfOpening (λ f. told-kind s at_step id payload) (λ f. inr (inr (refusal-ends s.token at_step c, refl))))

if-answers : (stage : client_stage.Stage) (b : Bool) (c : Option Code) (does : Code → Option Step) → ((x : Code) → IfKind stage (does x)) → IfKind stage (if_answers b c does)
if-answers stage true (Some c) does kind = kind c
if-answers stage true None does kind = tt
if-answers stage false c does kind = tt

waiting-kind : (s : ClientState) (w : Waiting) (c : Code) (payload : List ℕ) → InReady (waiting_replied s w c payload)
waiting-kind s w c payload =
    cond_both (is_retried c w.retries)
    (step (record s { waiting = Some (record { request = with_id w.request s.next_id; retries = w.retries + 1 }); next_id = id_after s.next_id }) (Some (with_id w.request s.next_id)) events.Step)
    (step (record s { waiting = None }) None (events.Told c payload)) InReady (λ e. inl refl) (λ e. inr (c, payload, refl))

ready-kind : (s : ClientState) (waiting : Option Waiting) (c : Option Code) (f : Frame) → IfKind stages.Ready (ready_reply s waiting c f)
ready-kind s None c f = tt
ready-kind s (Some w) c f = if-answers stages.Ready (answers w.request.command w.request.id f) c (λ x. Some (waiting_replied s w x f.payload)) (λ x. waiting-kind s w x f.payload)

as-kind : (at_step : OpeningStep) (id retries : ℕ) (o : Option Step) → IfOpening o → IfKind (stages.Opening at_step id retries) o
as-kind at_step id retries None h = tt
as-kind at_step id retries (Some st) h = h

reply-kind : (s : ClientState) (stage : client_stage.Stage) (c : Option Code) (f : Frame) → IfKind stage (takes_reply s stage c f)
reply-kind s stages.Unlinked c f = tt
reply-kind s (stages.Opening at_step id retries) c f =
    if-answers (stages.Opening at_step id retries) (answers (opening_command at_step) id f) c (λ x. opening_replied s at_step id retries x f.payload)
    (λ x. as-kind at_step id retries (opening_replied s at_step id retries x f.payload) (replied-kind s at_step id retries x f.payload))
reply-kind s stages.Ready c f = ready-kind s s.waiting c f
reply-kind s stages.Lost c f = tt

pub takes-kind : (s : ClientState) (c : Option Code) (f : Frame) (st : Step) → f.reply ≡ true → takes s c f ≡ Some st → Kind s.stage st
takes-kind s c f st reply is = subst (IfKind s.stage) (sym (ap (λ (b : Bool). takes_by b s c f) reply) ∙ is) (reply-kind s s.stage c f)

-- ---- what the law's client does

-- During an opening its count stays; what it writes was not written before, or it is ready and its request is written again.
abbrev OpeningDoes : Client → Taken → Type 0
OpeningDoes c t = (t.client.row ≡ c.row) × (AreFirst t.writes ⊎ ((t.client.stage ≡ Ready) × (t.writes ≡ again_writes c.wait)))

abbrev IfOpeningDoes : Client → Option Taken → Type 0
IfOpeningDoes c None = Unit {0}
IfOpeningDoes c (Some t) = OpeningDoes c t

token-does : (c : Client) (o : Option (List ℕ)) → IfOpeningDoes c (token_taken c o)
token-does c None = tt
token-does c (Some token) = (refl, inr (refl, refl))

step-does : (c : Client) (stage : Stage) (token : Option (List ℕ)) (block : List ℕ) → IfOpeningDoes c (step_taken c stage token block)
step-does c Opening token block = (refl, inl (refl, tt))
step-does c Entering token block = (refl, inl (refl, tt))
step-does c Joining None block = token-does c (token_in block)
step-does c Joining (Some token) block = (refl, inr (refl, refl))
step-does c Ready token block = tt
step-does c Gone token block = tt

same-first : (c : Client) (stage : Stage) → AreFirst (same_request c stage ∷ [])
same-first c Opening = (refl, tt)
same-first c Entering = (refl, tt)
same-first c Joining = (refl, tt)
same-first c Ready = (refl, tt)
same-first c Gone = (refl, tt)

opening-does : (c : Client) (a : Answer) → IfOpeningDoes c (opening_taken c a)
opening-does c (Fine block) = step-does c c.stage c.token block
opening-does c NoMemory =
    cond_both (nat_lt c.tries 3) (wrote (opens_with c c.stage (suc c.tries)) (same_request c c.stage ∷ [])) (wrote (in_stage c Gone) []) (IfOpeningDoes c) (λ e. (refl, inl (same-first c c.stage))) (λ e. (refl, inl tt))
opening-does c MiscErr = (refl, inl tt)
opening-does c (Refuses x block) = (refl, inl tt)

-- Of the reply to a command: the request is sent again, and it is one more in the row; or that is its result.
pub record HasResult (c : Client) (t : Taken) : Type 0 where
  pub done : Done
  pub results : t.client.results ≡ c.results ++ done ∷ []
  pub row : t.client.row ≡ (if is_miss done.answer then suc c.row else 0)

abbrev ReplyDoes : Client → Taken → Type 0
ReplyDoes c t = AreFirst t.writes × (((t.client.results ≡ c.results) × (t.client.row ≡ suc c.row)) ⊎ HasResult c t)

abbrev IfReplyDoes : Client → Option Taken → Type 0
IfReplyDoes c None = Unit {0}
IfReplyDoes c (Some t) = ReplyDoes c t

result-does : (c : Client) (w : Wait) (a : Answer) → IfReplyDoes c (wrote (with_result c w a) [])
result-does c w a = (tt, inr (record { done = record { id = w.id; call = w.call; answer = a }; results = refl; row = refl }))

reply-does : (c : Client) (w : Wait) (a : Answer) → IfReplyDoes c (reply_taken c w a)
reply-does c w (Fine block) = result-does c w (Fine block)
reply-does c w MiscErr = result-does c w MiscErr
reply-does c w (Refuses x block) = result-does c w (Refuses x block)
reply-does c w NoMemory =
    cond_both (nat_lt w.tries 3) (wrote (sent_again c w) (Asks (id_of c.first c.drawn) (Does w.call) false ∷ [])) (wrote (with_result c w NoMemory) []) (IfReplyDoes c) (λ e. ((refl, tt), inl (refl, refl))) (λ e. result-does c w NoMemory)

waiting-does : (c : Client) (wait : Option Wait) (tag : Tag) (a : Answer) → IfReplyDoes c (waiting_taken c wait tag a)
waiting-does c None tag a = tt
waiting-does c (Some w) OfOpening a = tt
waiting-does c (Some w) (OfCall id) a = cond_both (nat_eq id w.id) (reply_taken c w a) None (IfReplyDoes c) (λ e. reply-does c w a) (λ e. tt)

-- ---- what is noted

-- what is noted is so of the law's client, and of what it writes on its newest link
pub record NotedBy (notes new : Notes) (top : ℕ) (t : Taken) : Type 0 where
  pub row : t.client.row ≡ new.row
  pub numbers : new.numbers ≡ notes.numbers
  pub again : (j : ℕ) → (j ≡ top → ⊥) → new.again j ≡ notes.again j
  pub first : new.again top ≡ false → AreFirst t.writes

-- a client that is not opened is not ready
not-ready : (stage : Stage) (tries opening_id : ℕ) (token : Option (List ℕ)) (there : client_stage.Stage) → IsStage stage tries opening_id token there → there ≢ stages.Unlinked → is_opened there ≡ false → stage ≡ Ready → ⊥
not-ready stage tries opening_id token stages.Unlinked is linked closed ready = linked refl
not-ready stage tries opening_id token (stages.Opening steps.OpenSession id retries) is linked closed ready = let e : Opening ≡ Ready = sym is.0 ∙ ready in absurd (cc)
not-ready stage tries opening_id token (stages.Opening steps.Login id retries) is linked closed ready = let e : Entering ≡ Ready = sym is.0 ∙ ready in absurd (cc)
not-ready stage tries opening_id token (stages.Opening steps.Session id retries) is linked closed ready = let e : Joining ≡ Ready = sym is.0 ∙ ready in absurd (cc)
not-ready stage tries opening_id token stages.Ready is linked closed ready = absurd (cc)
not-ready stage tries opening_id token stages.Lost is linked closed ready = let e : Gone ≡ Ready = sym is ∙ ready in absurd (cc)

ending-notes : (event : Event) (s : ClientState) (top : ℕ) (notes : Notes) → is_ending event ≡ true → noted_event event s top notes ≡ notes
ending-notes (events.Refused c) s top notes is = refl
ending-notes (events.Lost c) s top notes is = refl
ending-notes (events.Told c block) s top notes is = absurd (cc)
ending-notes events.NotYet s top notes is = absurd (cc)
ending-notes events.Step s top notes is = absurd (cc)
ending-notes events.Ready s top notes is = absurd (cc)
ending-notes events.Tickle s top notes is = absurd (cc)
ending-notes (events.Attention word) s top notes is = absurd (cc)
ending-notes events.Closed s top notes is = absurd (cc)
ending-notes (events.Bad place) s top notes is = absurd (cc)
ending-notes events.Memory s top notes is = absurd (cc)

first-where : (writes : List Request) (stage : Stage) (wait : Option Wait) → AreFirst writes ⊎ ((stage ≡ Ready) × (writes ≡ again_writes wait)) → (stage ≡ Ready → ⊥) → AreFirst writes
first-where writes stage wait (inl firsts) off = firsts
first-where writes stage wait (inr again) off = absurd (off again.0)

first-idle : (u : Setup) (writes : List Request) (stage : Stage) (wait : Option Wait) → AreFirst writes ⊎ ((stage ≡ Ready) × (writes ≡ again_writes wait)) → is_some (waiting_of u wait) ≡ false → AreFirst writes
first-idle u writes stage wait (inl firsts) idle = firsts
first-idle u writes stage None (inr again) idle = subst AreFirst (sym again.1) tt
first-idle u writes stage (Some w) (inr again) idle = absurd (cc)

noted-opening : (u : Setup) (c : Client) (s : ClientState) (notes : Notes) (top : ℕ) (at_step : OpeningStep) (id retries : ℕ) (t : Taken) (st : Step) → s.stage ≡ stages.Opening at_step id retries → IsClient u c s → IsOne u c t st → st.state.stage ≢ stages.Unlinked
    → OpeningDoes c t → c.row ≡ notes.row → InOpening st → NotedBy notes (noted_event st.event s top notes) top t
noted-opening u c s notes top at_step id retries t st stage client one linked does row (inl (event, closed)) =
    let new : Notes = noted_event events.Step s top notes in
    subst (λ (e : Event). NotedBy notes (noted_event e s top notes) top t) (sym event)
    (record {
      row = does.0 ∙ row ∙ sym (ap (λ (x : client_stage.Stage). row_at_step x notes.row) stage);
      numbers = refl;
      again = λ j off. set-off notes.again top false j off;
      first = λ unset. first-where t.writes t.client.stage c.wait does.1 (not-ready t.client.stage t.client.tries t.client.opening_id t.client.token st.state.stage one.client.stage linked closed);
    })
noted-opening u c s notes top at_step id retries t st stage client one linked does row (inr (inl event)) =
    subst (λ (e : Event). NotedBy notes (noted_event e s top notes) top t) (sym event)
    (record {
      row = does.0 ∙ row;
      numbers = refl;
      again = λ j off. set-off notes.again top (is_some s.waiting) j off;
      first = λ unset. first-idle u t.writes t.client.stage c.wait does.1 (ap is_some (sym client.waiting) ∙ sym (set-at notes.again top (is_some s.waiting) top refl) ∙ unset);
    })
noted-opening u c s notes top at_step id retries t st stage client one linked does row (inr (inr (ends, closed))) =
    subst (λ (x : Notes). NotedBy notes x top t) (sym (ending-notes st.event s top notes ends))
    (record {
      row = does.0 ∙ row;
      numbers = refl;
      again = λ j off. refl;
      first = λ unset. first-where t.writes t.client.stage c.wait does.1 (not-ready t.client.stage t.client.tries t.client.opening_id t.client.token st.state.stage one.client.stage linked closed);
    })

-- lists with one element more
one-more : (xs : List Done) (d : Done) → xs ≡ xs ++ d ∷ [] → ⊥
one-more xs d same = let e = ap (λ (l : List Done). length l) same ∙ length-append xs (d ∷ []) in absurd (omega (arith, e))

last-same : (xs : List Done) (d e : Done) → xs ++ d ∷ [] ≡ xs ++ e ∷ [] → d ≡ e
last-same [] d e same = cc
last-same (x ∷ xs) d e same = let tails : xs ++ d ∷ [] ≡ xs ++ e ∷ [] = cc in last-same xs d e tails

row-of-step : (u : Setup) (c : Client) (t : Taken) (st : Step) → st.event ≡ events.Step → IsOne u c t st → ((t.client.results ≡ c.results) × (t.client.row ≡ suc c.row)) ⊎ HasResult c t → t.client.row ≡ suc c.row
row-of-step u c t st event one (inl same) = same.1
row-of-step u c t st event one (inr r) =
    let none : t.client.results ≡ c.results = one.results ∙ (λ i. c.results ++ results_with (event i) c.wait) ∙ append-nil c.results in
    absurd (one-more c.results r.done (sym none ∙ r.results))

row-of-told : (u : Setup) (c : Client) (t : Taken) (st : Step) (code : Code) (block : List ℕ) (wait : Option Wait) → c.wait ≡ wait → wait ≢ None → st.event ≡ events.Told code block → IsOne u c t st → ((t.client.results ≡ c.results) × (t.client.row ≡ suc c.row)) ⊎ HasResult c t
    → t.client.row ≡ (if is_miss (answer_by code block) then suc c.row else 0)
row-of-told u c t st code block None waits some event one does = absurd (some refl)
row-of-told u c t st code block (Some w) waits some event one does = by does
  where
    d : Done
    d = record { id = w.id; call = w.call; answer = answer_by code block }

    told : t.client.results ≡ c.results ++ d ∷ []
    told = one.results ∙ (λ i. c.results ++ results_with (event i) (waits i))

    by : ((t.client.results ≡ c.results) × (t.client.row ≡ suc c.row)) ⊎ HasResult c t → t.client.row ≡ (if is_miss (answer_by code block) then suc c.row else 0)
    by (inl same) = absurd (one-more c.results d (sym same.0 ∙ told))
    by (inr r) = r.row ∙ ap (λ (x : Done). if is_miss x.answer then suc c.row else 0) (last-same c.results r.done d (sym r.results ∙ told))

noted-ready : (u : Setup) (c : Client) (s : ClientState) (notes : Notes) (top : ℕ) (t : Taken) (st : Step) → s.stage ≡ stages.Ready → c.wait ≢ None → IsOne u c t st → ReplyDoes c t → c.row ≡ notes.row → InReady st → NotedBy notes (noted_event st.event s top notes) top t
noted-ready u c s notes top t st stage some one does row (inl event) =
    subst (λ (e : Event). NotedBy notes (noted_event e s top notes) top t) (sym event)
    (record {
      row = row-of-step u c t st event one does.1 ∙ ap suc row ∙ sym (ap (λ (x : client_stage.Stage). row_at_step x notes.row) stage);
      numbers = refl;
      again = λ j off. set-off notes.again top false j off;
      first = λ unset. does.0;
    })
noted-ready u c s notes top t st stage some one does row (inr (code, block, event)) =
    subst (λ (e : Event). NotedBy notes (noted_event e s top notes) top t) (sym event)
    (record {
      row = row-of-told u c t st code block c.wait refl some event one does.1 ∙ ap (λ (r : ℕ). if is_miss (answer_by code block) then suc r else 0) row;
      numbers = refl;
      again = λ j off. set-off notes.again top false j off;
      first = λ unset. does.0;
    })

waits-some : (c : Client) (wait : Option Wait) (tag : Tag) (a : Answer) (t : Taken) → waiting_taken c wait tag a ≡ Some t → wait ≢ None
waits-some c None tag a t is none = let e : None ≡ Some t = is in cc
waits-some c (Some w) tag a t is none = cc

taken-opening : (c : Client) (at_step : OpeningStep) (tag : Tag) (a : Answer) (t : Taken) → c.stage ≡ stage_at at_step → client_takes c c.stage tag a ≡ Some t → OpeningDoes c t
taken-opening c steps.OpenSession tag a t stage is = subst (IfOpeningDoes c) (sym (ap (λ (x : Stage). client_takes c x tag a) stage) ∙ is) (opening-does c a)
taken-opening c steps.Login tag a t stage is = subst (IfOpeningDoes c) (sym (ap (λ (x : Stage). client_takes c x tag a) stage) ∙ is) (opening-does c a)
taken-opening c steps.Session tag a t stage is = subst (IfOpeningDoes c) (sym (ap (λ (x : Stage). client_takes c x tag a) stage) ∙ is) (opening-does c a)

pub noted-by : (u : Setup) (c : Client) (s : ClientState) (notes : Notes) (top : ℕ) (tag : Tag) (a : Answer) (t : Taken) (st : Step) → IsClient u c s → IsOne u c t st → st.state.stage ≢ stages.Unlinked → Kind s.stage st
    → client_takes c c.stage tag a ≡ Some t → c.row ≡ notes.row → NotedBy notes (noted_event st.event s top notes) top t
noted-by u c s notes top tag a t st client one linked kind is row = by s.stage refl kind
  where
    by : (stage : client_stage.Stage) → s.stage ≡ stage → Kind stage st → NotedBy notes (noted_event st.event s top notes) top t
    by stages.Unlinked same k = absurd k
    by stages.Lost same k = absurd k
    by (stages.Opening at_step id retries) same k =
        let there = subst (IsStage c.stage c.tries c.opening_id c.token) same client.stage in
        noted-opening u c s notes top at_step id retries t st same client one linked (taken-opening c at_step tag a t there.0 is) row k
    by stages.Ready same k =
        let ready : c.stage ≡ Ready = (subst (IsStage c.stage c.tries c.opening_id c.token) same client.stage).0 in
        let taken : waiting_taken c c.wait tag a ≡ Some t = sym (ap (λ (x : Stage). client_takes c x tag a) ready) ∙ is in
        noted-ready u c s notes top t st same (waits-some c c.wait tag a t taken) one (subst (IfReplyDoes c) taken (waiting-does c c.wait tag a)) row k
