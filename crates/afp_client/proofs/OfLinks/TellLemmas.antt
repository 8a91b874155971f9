-- A result comes with nothing to be written.
use Rattle.std.proofs.Common.{◌≡◌, ℕ, List, Option, Some, None, Bool, true, false, IfSome, refl, subst, cond, option_map, length, ◌==◌}
use Rattle.afp_base.specs.declared.code.Code.{Code}
use Rattle.dsi_frame.specs.Frame.{Frame}
use Rattle.dsi_frame.specs.declared.frame.DsiCommand.{DsiCommand}
use Rattle.dsi_frame.specs.declared.frame.DsiCommand.TheVariants as commands
use Rattle.dsi_session.specs.RequestIds.{id_after}
use Rattle.afp_client.specs.session.State.{Client, ClientState, IsReady, Waiting}
use Rattle.afp_client.specs.session.Takes.{answers, if_answers, is_ok, is_retried, opened, opening_command, opening_replied, opening_told, ready_reply, session_told, session_refusal, refusal, takes_reply, takes_request, takes_by, takes, token_in, waiting_replied, written}
use Rattle.afp_client.specs.session.Takes as S
use Rattle.afp_client.specs.session.Happens.{Happens}
use Rattle.afp_client.specs.declared.session.event.Event.{Event}
use Rattle.afp_client.specs.declared.session.event.Event.TheVariants as events
use Rattle.afp_client.specs.declared.session.stage.OpeningStep.{OpeningStep}
use Rattle.afp_client.specs.declared.session.stage.OpeningStep.TheVariants as steps
use Rattle.afp_client.specs.declared.session.stage.Stage.{Stage}
use Rattle.afp_client.specs.declared.session.stage.Stage.TheVariants as stages

-- nothing is written with a result, and the client can be asked behind it
abbrev pub IsAlone : Event → Option Frame → ClientState → Type 0
IsAlone (events.Told c block) writes t = (writes ≡ None) × IsReady t
IsAlone event writes t = Unit {0}

abbrev pub Alone : S.Step → Type 0
Alone st = IsAlone st.event st.writes st.state

pub if_some : (P : S.Step → Type 0) (b : Bool) (x y : Option S.Step) → IfSome x P → IfSome y P → IfSome (cond b x y) P
if_some P true x y hx hy = hx
if_some P false x y hx hy = hy

pub if_step : (P : S.Step → Type 0) (b : Bool) (x y : S.Step) → P x → P y → P (cond b x y)
if_step P true x y hx hy = hx
if_step P false x y hx hy = hy

refused_alone : (token : Option (List ℕ)) (at : OpeningStep) (c : Code) (t : ClientState) → IsAlone (refusal token at c) None t
refused_alone token steps.OpenSession c t = tt
refused_alone token steps.Login c t = tt
refused_alone None steps.Session c t = tt
refused_alone (Some old) steps.Session c t = tt

token_alone : (s : ClientState) (id : ℕ) (found : Option (List ℕ)) → IfSome (option_map (λ (token : List ℕ). opened (record s { token = Some token; next_id = id_after id })) found) Alone
token_alone s id None = tt
token_alone s id (Some token) = tt

session_alone : (s : ClientState) (token : Option (List ℕ)) (id : ℕ) (payload : List ℕ) → IfSome (session_told s token id payload) Alone
session_alone s (Some token) id payload = tt
session_alone s None id payload = token_alone s id (token_in payload)

opening_alone : (s : ClientState) (at : OpeningStep) (id : ℕ) (payload : List ℕ) → IfSome (opening_told s at id payload) Alone
opening_alone s steps.OpenSession id payload = tt
opening_alone s steps.Login id payload = tt
opening_alone s steps.Session id payload = session_alone s s.token id payload

replied_alone : (s : ClientState) (at : OpeningStep) (id retries : ℕ) (c : Code) (payload : List ℕ) → IfSome (opening_replied s at id retries c payload) Alone
replied_alone s at id retries c payload =
    if_some Alone (is_retried c retries) _ _ tt
    (if_some Alone (is_ok c) _ _ (opening_alone s at id payload) (refused_alone s.token at c _))

waiting_alone : (s : ClientState) (w : Waiting) (c : Code) (payload : List ℕ) → s.stage ≡ stages.Ready → Alone (waiting_replied s w c payload)
waiting_alone s w c payload e = if_step Alone (is_retried c w.retries) _ _ tt (refl, record { opened = e; idle = refl })

answered_alone : (b : Bool) (found : Option Code) (does : Code → Option S.Step) → ((c : Code) → IfSome (does c) Alone) → IfSome (if_answers b found does) Alone
answered_alone true (Some c) does h = h c
answered_alone true None does h = tt
answered_alone false found does h = tt

request_alone : (s : ClientState) (command : DsiCommand) (f : Frame) → IfSome (takes_request s command f) Alone
request_alone s commands.Tickle f = tt
request_alone s commands.CloseSession f = tt
request_alone s commands.Attention f = if_some Alone (length f.payload == 2) _ _ tt tt
request_alone s commands.Command f = tt
request_alone s commands.Write f = tt
request_alone s commands.GetStatus f = tt
request_alone s commands.OpenSession f = tt

ready_alone : (s : ClientState) (w : Option Waiting) (found : Option Code) (f : Frame) → s.stage ≡ stages.Ready → IfSome (ready_reply s w found f) Alone
ready_alone s None found f e = tt
ready_alone s (Some w) found f e = answered_alone (answers w.request.command w.request.id f) found _ (λ c. waiting_alone s w c f.payload e)

reply_alone : (s : ClientState) (stage : Stage) (found : Option Code) (f : Frame) → s.stage ≡ stage → IfSome (takes_reply s stage found f) Alone
reply_alone s stages.Unlinked found f e = tt
reply_alone s (stages.Opening at id retries) found f e = answered_alone (answers (opening_command at) id f) found _ (λ c. replied_alone s at id retries c f.payload)
reply_alone s stages.Ready found f e = ready_alone s s.waiting found f e
reply_alone s stages.Lost found f e = tt

frame_alone : (s : ClientState) (found : Option Code) (f : Frame) (b : Bool) → IfSome (takes_by b s found f) Alone
frame_alone s found f true = reply_alone s s.stage found f refl
frame_alone s found f false = request_alone s f.command f

pub step_alone : (s : ClientState) (found : Option Code) (f : Frame) (st : S.Step) → takes s found f ≡ Some st → Alone st
step_alone s found f st e = subst (λ (o : Option S.Step). IfSome o Alone) e (frame_alone s found f f.reply)

-- the client can be asked behind a result
pub told_ready : (old new : Client) (out out_after : List ℕ) (c : Code) (block : List ℕ) → Happens old out (events.Told c block) new out_after → IsReady new.state
told_ready old new out out_after c block h = (step_alone old.state h.found h.frame (S.step new.state h.writes (events.Told c block)) h.taken).1
