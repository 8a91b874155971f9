-- Each call has its result.
use Rattle.std.proofs.Common.{◌≡◌, ◌⊎◌, ℕ, List, [], ◌∷◌, ◌++◌, Option, Some, None, Bool, true, false, IfSome, refl, ap, sym, subst, ◌∙◌, cond, option_map, inl, inr, length, ◌==◌}
use Rattle.afp_base.specs.declared.code.Code.{Code}
use Rattle.dsi_frame.specs.Frame.{Frame}
use Rattle.dsi_frame.specs.declared.frame.DsiCommand.{DsiCommand}
use Rattle.dsi_frame.specs.declared.frame.DsiCommand.TheVariants as commands
use Rattle.dsi_session.specs.RequestIds.{id_after}
use Rattle.afp_calls_grammar.specs.grammar.Call.{canonical_data}
use Rattle.afp_calls_grammar.specs.declared.grammar.call.Call.{Call}
use Rattle.afp_client.specs.session.State.{ClientState, Waiting, call_frame, framed_call}
use Rattle.afp_client.specs.session.Takes.{answers, if_answers, is_ok, is_retried, opened, opening_command, opening_replied, opening_told, ready_reply, refusal, session_told, takes_by, takes_reply, takes_request, token_in, waiting_replied, with_id}
use Rattle.afp_client.specs.session.Takes as S
use Rattle.afp_client.specs.session.Run.{Action, Follows, Result, asked_in, asks, begins, breaks, result_by, results_by, takes_frame}
use Rattle.afp_client.specs.session.Laws.{EachHasItsResult, HaveResults}
use Rattle.afp_client.specs.declared.session.event.Event.{Event}
use Rattle.afp_client.specs.declared.session.event.Event.TheVariants as events
use Rattle.afp_client.specs.declared.session.stage.OpeningStep.{OpeningStep}
use Rattle.afp_client.specs.declared.session.stage.OpeningStep.TheVariants as steps
use Rattle.afp_client.specs.declared.session.stage.Stage.{Stage}
use Rattle.afp_client.specs.declared.session.stage.Stage.TheVariants as stages
use Rattle.afp_client.proofs.OfSession.RunLemmas.{if_some}

abbrev is_told : Event → Bool
is_told (events.Told c block) = true
is_told event = false

-- the call waits under its frame, or none does
abbrev Waits : Option Call → Option Waiting → Type 0
Waits None None = Unit {0}
Waits None (Some w) = ⊥
Waits (Some call) None = ⊥
Waits (Some call) (Some w) = (id : ℕ) × (w.request ≡ call_frame id call)

-- a step tells the call that waits its result, or it goes on waiting
abbrev Goes : Option Call → S.Step → Type 0
Goes call st =
    ((c : Call) × (code : Code) × (block : List ℕ) × (call ≡ Some c) × (st.event ≡ events.Told code block) × (st.state.waiting ≡ None))
    ⊎ ((is_told st.event ≡ false) × Waits call st.state.waiting)

not_told : (token : Option (List ℕ)) (at : OpeningStep) (c : Code) → is_told (refusal token at c) ≡ false
not_told token steps.OpenSession c = refl
not_told token steps.Login c = refl
not_told None steps.Session c = refl
not_told (Some old) steps.Session c = refl

token_goes : (call : Option Call) (s : ClientState) (id : ℕ) (found : Option (List ℕ)) → Waits call s.waiting
    → IfSome (option_map (λ (token : List ℕ). opened (record s { token = Some token; next_id = id_after id })) found) (Goes call)
token_goes call s id None m = tt
token_goes call s id (Some token) m = inr (refl, m)

session_goes : (call : Option Call) (s : ClientState) (token : Option (List ℕ)) (id : ℕ) (payload : List ℕ) → Waits call s.waiting → IfSome (session_told s token id payload) (Goes call)
session_goes call s (Some token) id payload m = inr (refl, m)
session_goes call s None id payload m = token_goes call s id (token_in payload) m

told_goes : (call : Option Call) (s : ClientState) (at : OpeningStep) (id : ℕ) (payload : List ℕ) → Waits call s.waiting → IfSome (opening_told s at id payload) (Goes call)
told_goes call s steps.OpenSession id payload m = inr (refl, m)
told_goes call s steps.Login id payload m = inr (refl, m)
told_goes call s steps.Session id payload m = session_goes call s s.token id payload m

replied_goes : (call : Option Call) (s : ClientState) (at : OpeningStep) (id retries : ℕ) (c : Code) (payload : List ℕ) → Waits call s.waiting
    → IfSome (opening_replied s at id retries c payload) (Goes call)
replied_goes call s at id retries c payload m =
    if_some (Goes call) (is_retried c retries) _ _ (inr (refl, m))
    (if_some (Goes call) (is_ok c) _ _ (told_goes call s at id payload m) (inr (not_told s.token at c, m)))

opening_goes : (call : Option Call) (s : ClientState) (b : Bool) (found : Option Code) (at : OpeningStep) (id retries : ℕ) (f : Frame) → Waits call s.waiting
    → IfSome (if_answers b found (λ c. opening_replied s at id retries c f.payload)) (Goes call)
opening_goes call s true (Some c) at id retries f m = replied_goes call s at id retries c f.payload m
opening_goes call s true None at id retries f m = tt
opening_goes call s false found at id retries f m = tt

-- a call's frame under another id is the call's
renamed_data : (piece : Option (List ℕ)) (id other : ℕ) (call : Call) → with_id (framed_call id call piece) other ≡ framed_call other call piece
renamed_data None id other call = refl
renamed_data (Some bytes) id other call = refl

renamed : (id other : ℕ) (call : Call) → with_id (call_frame id call) other ≡ call_frame other call
renamed id other call = renamed_data (canonical_data call) id other call

one_step : (P : S.Step → Type 0) (b : Bool) (x y : S.Step) → P x → P y → P (cond b x y)
one_step P true x y hx hy = hx
one_step P false x y hx hy = hy

waiting_goes : (call : Call) (s : ClientState) (w : Waiting) (c : Code) (payload : List ℕ) → Waits (Some call) (Some w) → Goes (Some call) (waiting_replied s w c payload)
waiting_goes call s w c payload m =
    one_step (Goes (Some call)) (is_retried c w.retries) _ _
    (inr (refl, (s.next_id, ap (λ (f : Frame). with_id f s.next_id) m.1 ∙ renamed m.0 s.next_id call)))
    (inl (call, c, payload, refl, refl, refl))

ready_answered : (call : Call) (s : ClientState) (w : Waiting) (b : Bool) (found : Option Code) (f : Frame) → Waits (Some call) (Some w)
    → IfSome (if_answers b found (λ c. Some (waiting_replied s w c f.payload))) (Goes (Some call))
ready_answered call s w true (Some c) f m = waiting_goes call s w c f.payload m
ready_answered call s w true None f m = tt
ready_answered call s w false found f m = tt

ready_goes : (call : Option Call) (s : ClientState) (waiting : Option Waiting) (found : Option Code) (f : Frame) → Waits call waiting → IfSome (ready_reply s waiting found f) (Goes call)
ready_goes call s None found f m = tt
ready_goes None s (Some w) found f m = absurd m
ready_goes (Some call) s (Some w) found f m = ready_answered call s w (answers w.request.command w.request.id f) found f m

reply_goes : (call : Option Call) (s : ClientState) (stage : Stage) (found : Option Code) (f : Frame) → Waits call s.waiting → IfSome (takes_reply s stage found f) (Goes call)
reply_goes call s stages.Unlinked found f m = tt
reply_goes call s (stages.Opening at id retries) found f m = opening_goes call s (answers (opening_command at) id f) found at id retries f m
reply_goes call s stages.Ready found f m = ready_goes call s s.waiting found f m
reply_goes call s stages.Lost found f m = tt

request_goes : (call : Option Call) (s : ClientState) (command : DsiCommand) (f : Frame) → Waits call s.waiting → IfSome (takes_request s command f) (Goes call)
request_goes call s commands.Tickle f m = inr (refl, m)
request_goes call s commands.CloseSession f m = inr (refl, m)
request_goes call s commands.Attention f m = if_some (Goes call) (length f.payload == 2) _ _ (inr (refl, m)) tt
request_goes call s commands.Command f m = tt
request_goes call s commands.Write f m = tt
request_goes call s commands.GetStatus f m = tt
request_goes call s commands.OpenSession f m = tt

frame_goes : (call : Option Call) (s : ClientState) (b : Bool) (found : Option Code) (f : Frame) → Waits call s.waiting → IfSome (takes_by b s found f) (Goes call)
frame_goes call s true found f m = reply_goes call s s.stage found f m
frame_goes call s false found f m = request_goes call s f.command f m

-- what results are with a result, and without
told_result : (call : Option Call) (event : Event) (c : Call) (code : Code) (block : List ℕ) (told untold : List Result) → call ≡ Some c → event ≡ events.Told code block
    → result_by call event told untold ≡ record { call = c; code = code; block = block } ∷ told
told_result call event c code block told untold is says =
    ap (λ (o : Option Call). result_by o event told untold) is ∙ ap (λ (e : Event). result_by (Some c) e told untold) says

untold_result : (call : Option Call) (event : Event) (told untold : List Result) → is_told event ≡ false → result_by call event told untold ≡ untold
untold_result None event told untold e = refl
untold_result (Some c) (events.Told code block) told untold e = cc
untold_result (Some c) events.NotYet told untold e = refl
untold_result (Some c) events.Step told untold e = refl
untold_result (Some c) events.Ready told untold e = refl
untold_result (Some c) (events.Refused code) told untold e = refl
untold_result (Some c) (events.Lost code) told untold e = refl
untold_result (Some c) events.Tickle told untold e = refl
untold_result (Some c) (events.Attention word) told untold e = refl
untold_result (Some c) events.Closed told untold e = refl
untold_result (Some c) (events.Bad at) told untold e = refl
untold_result (Some c) events.Memory told untold e = refl

-- the call that waits, as a list
abbrev waiting_call : Option Call → List Call
waiting_call None = []
waiting_call (Some call) = call ∷ []

no_more : (call : Option Call) (waiting : Option Waiting) → Waits call waiting → HaveResults (waiting_call call ++ []) [] waiting
no_more None None m = refl
no_more None (Some w) m = absurd m
no_more (Some call) None m = absurd m
no_more (Some call) (Some w) m = (call, m.0, m.1, refl)

one_more : (waiting : Option Waiting) (calls : List Call) (results : List Result) (r : Result) → HaveResults calls results waiting → HaveResults (r.call ∷ calls) (r ∷ results) waiting
one_more None calls results r h = ap (λ (cs : List Call). r.call ∷ cs) h
one_more (Some w) calls results r h = (h.0, h.1, h.2, ap (λ (cs : List Call). r.call ∷ cs) h.3)

none_waits : (call : Option Call) (waiting : Option Waiting) → waiting ≡ None → Waits call waiting → call ≡ None
none_waits None waiting e m = refl
none_waits (Some call) None e m = absurd m
none_waits (Some call) (Some w) e m = cc

have_results : (call : Option Call) (s t : ClientState) (actions : List Action) (frames : List Frame) → Waits call s.waiting → Follows s actions t frames
    → HaveResults (waiting_call call ++ asked_in actions) (results_by call actions) t.waiting
have_results call s t [] frames m f =
    subst (λ (x : ClientState). HaveResults (waiting_call call ++ []) [] x.waiting) (sym f.0) (no_more call s.waiting m)
have_results call s t (breaks ∷ actions) frames m f =
    have_results call f.0 t actions f.1 (subst (λ (x : ClientState). Waits call x.waiting) (sym f.2) m) f.4
have_results call s t (begins ∷ actions) frames m f =
    have_results call f.0 t actions f.1 (subst (λ (x : ClientState). Waits call x.waiting) (sym f.2) m) f.4
have_results call s t (asks next ∷ actions) frames m f =
    let none : call ≡ None = none_waits call s.waiting f.2.0.idle m in
    let waits : Waits (Some next) f.0.waiting = subst (λ (x : ClientState). Waits (Some next) x.waiting) (sym f.2.1) (s.next_id, refl) in
    subst (λ (o : Option Call). HaveResults (waiting_call o ++ next ∷ asked_in actions) (results_by (Some next) actions) t.waiting) (sym none)
    (have_results (Some next) f.0 t actions f.1 waits f.4)
have_results call s t (takes_frame g st ∷ actions) frames m f =
    let goes : Goes call st = subst (λ (o : Option S.Step). IfSome o (Goes call)) f.2.3 (frame_goes call s g.reply f.2.1 g m) in
    let mid_is : f.0 ≡ st.state = f.2.4 in
    elim goes [
      | inl h ↦
          let r : Result = record { call = h.0; code = h.1; block = h.2 } in
          let told = told_result call st.event h.0 h.1 h.2 (results_by None actions) (results_by call actions) h.3 h.4 in
          let none : f.0.waiting ≡ None = ap (λ (x : ClientState). x.waiting) mid_is ∙ h.5 in
          let later = have_results None f.0 t actions f.1 (subst (λ (w : Option Waiting). Waits None w) (sym none) tt) f.4 in
          subst (λ (o : Option Call). HaveResults (waiting_call o ++ asked_in actions) (result_by call st.event (results_by None actions) (results_by call actions)) t.waiting) (sym h.3)
          (subst (λ (rs : List Result). HaveResults (h.0 ∷ asked_in actions) rs t.waiting) (sym told) (one_more t.waiting (asked_in actions) (results_by None actions) r later))
      | inr h ↦
          let untold = untold_result call st.event (results_by None actions) (results_by call actions) h.0 in
          let waits = subst (λ (x : ClientState). Waits call x.waiting) (sym mid_is) h.1 in
          subst (λ (rs : List Result). HaveResults (waiting_call call ++ asked_in actions) rs t.waiting) (sym untold) (have_results call f.0 t actions f.1 waits f.4)
    ]

pub each_has_its_result : EachHasItsResult
each_has_its_result s t actions frames idle f = have_results None s t actions frames (subst (λ (w : Option Waiting). Waits None w) (sym idle) tt) f
