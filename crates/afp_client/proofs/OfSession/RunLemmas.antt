-- Steps of a client, one after the other.
use Rattle.std.proofs.Common.{◌≡◌, ℕ, List, [], ◌∷◌, ◌++◌, Option, Some, None, Bool, true, false, IfSome, refl, ap, sym, subst, ◌∙◌, append_assoc, cond, option_map, length, ◌==◌}
use Rattle.afp_base.specs.declared.code.Code.{Code}
use Rattle.dsi_frame.specs.Frame.{Frame}
use Rattle.dsi_session.specs.RequestIds.{id_after}
use Rattle.afp_client.specs.session.State.{ClientState, Waiting}
use Rattle.afp_client.specs.session.Takes.{answers, if_answers, is_ok, is_retried, opened, opening_command, opening_replied, opening_told, session_told, refusal, takes_reply, takes_request, takes_by, token_in}
use Rattle.afp_client.specs.session.Takes as S
use Rattle.afp_client.specs.session.Run.{Follows, writes_of}
use Rattle.afp_client.specs.session.Laws.{FollowsJoin, Keeps, OpeningKeeps, BreakKeeps}
use Rattle.afp_client.specs.declared.session.event.Event.TheVariants as events
use Rattle.afp_client.specs.declared.session.stage.OpeningStep.{OpeningStep}
use Rattle.afp_client.specs.declared.session.stage.OpeningStep.TheVariants as steps
use Rattle.afp_client.specs.declared.session.stage.Stage.{Stage}
use Rattle.afp_client.specs.declared.session.stage.Stage.TheVariants as stages
use Rattle.dsi_frame.specs.declared.frame.DsiCommand.{DsiCommand}
use Rattle.dsi_frame.specs.declared.frame.DsiCommand.TheVariants as commands

pub follows_join : FollowsJoin
follows_join s mid t [] last frames more a b = subst (λ (x : ClientState). Follows x last t (frames ++ more)) a.0 (subst (λ (x : List Frame). Follows mid last t (x ++ more)) (sym a.1) b)
follows_join s mid t (d ∷ first) last frames more a b =
    (a.0, a.1 ++ more, a.2, ap (λ (x : List Frame). x ++ more) a.3 ∙ append_assoc (writes_of s d) a.1 more, follows_join a.0 mid t first last a.1 more a.4 b)

pub if_some : (P : S.Step → Type 0) (b : Bool) (x y : Option S.Step) → IfSome x P → IfSome y P → IfSome (cond b x y) P
if_some P true x y hx hy = hx
if_some P false x y hx hy = hy

not_ready : (token : Option (List ℕ)) (at : OpeningStep) (c : Code) → refusal token at c ≡ events.Ready → ⊥
not_ready token steps.OpenSession c e = cc
not_ready token steps.Login c e = cc
not_ready None steps.Session c e = cc
not_ready (Some old) steps.Session c e = cc

-- what is there is itself
own : (found : Option (List ℕ)) → IfSome found (λ token. found ≡ Some token)
own None = tt
own (Some token) = refl

-- what holds anyhow holds where there is a token
anyhow : (found : Option (List ℕ)) (P : Type 0) → P → IfSome found (λ token. P)
anyhow None P h = tt
anyhow (Some token) P h = h

-- a step that leaves all but the stage as it is
stays : (s : ClientState) (st : S.Step) → st.state.waiting ≡ s.waiting → st.state.token ≡ s.token → st.state.next_id ≡ s.next_id
    → (st.event ≡ events.Ready → st.writes ≡ option_map (λ (w : Waiting). w.request) s.waiting) → Keeps s st
stays s st waits token next again = record {
  waits = waits;
  token = subst (λ (x : Option (List ℕ)). IfSome s.token (λ token. x ≡ Some token)) (sym token) (own s.token);
  next_id = anyhow s.token (st.state.next_id ≡ s.next_id) next;
  again = again;
}

token_keeps : (s : ClientState) (id : ℕ) (found : Option (List ℕ)) → s.token ≡ None → IfSome (option_map (λ (token : List ℕ). opened (record s { token = Some token; next_id = id_after id })) found) (Keeps s)
token_keeps s id None none = tt
token_keeps s id (Some token) none = record {
  waits = refl;
  token = subst (λ (x : Option (List ℕ)). IfSome x (λ old. Some token ≡ Some old)) (sym none) tt;
  next_id = subst (λ (x : Option (List ℕ)). IfSome x (λ old. id_after id ≡ s.next_id)) (sym none) tt;
  again = λ e. refl;
}

session_keeps : (s : ClientState) (token : Option (List ℕ)) (id : ℕ) (payload : List ℕ) → s.token ≡ token → IfSome (session_told s token id payload) (Keeps s)
session_keeps s (Some token) id payload is = stays s (opened s) refl refl refl (λ e. refl)
session_keeps s None id payload is = token_keeps s id (token_in payload) is

told_keeps : (s : ClientState) (at : OpeningStep) (id : ℕ) (payload : List ℕ) → IfSome (opening_told s at id payload) (Keeps s)
told_keeps s steps.OpenSession id payload = stays s _ refl refl refl (λ e. cc)
told_keeps s steps.Login id payload = stays s _ refl refl refl (λ e. cc)
told_keeps s steps.Session id payload = session_keeps s s.token id payload refl

replied_keeps : (s : ClientState) (at : OpeningStep) (id retries : ℕ) (c : Code) (payload : List ℕ) → IfSome (opening_replied s at id retries c payload) (Keeps s)
replied_keeps s at id retries c payload =
    if_some (Keeps s) (is_retried c retries) _ _ (stays s _ refl refl refl (λ e. cc))
    (if_some (Keeps s) (is_ok c) _ _ (told_keeps s at id payload) (stays s _ refl refl refl (λ e. absurd (not_ready s.token at c e))))

answered_keeps : (s : ClientState) (b : Bool) (found : Option Code) (at : OpeningStep) (id retries : ℕ) (f : Frame)
    → IfSome (if_answers b found (λ c. opening_replied s at id retries c f.payload)) (Keeps s)
answered_keeps s true (Some c) at id retries f = replied_keeps s at id retries c f.payload
answered_keeps s true None at id retries f = tt
answered_keeps s false found at id retries f = tt

request_keeps : (s : ClientState) (command : DsiCommand) (f : Frame) → IfSome (takes_request s command f) (Keeps s)
request_keeps s commands.Tickle f = stays s _ refl refl refl (λ e. cc)
request_keeps s commands.CloseSession f = stays s _ refl refl refl (λ e. cc)
request_keeps s commands.Attention f = if_some (Keeps s) (length f.payload == 2) _ _ (stays s _ refl refl refl (λ e. cc)) tt
request_keeps s commands.Command f = tt
request_keeps s commands.Write f = tt
request_keeps s commands.GetStatus f = tt
request_keeps s commands.OpenSession f = tt

reply_keeps : (s : ClientState) (f : Frame) (found : Option Code) (at : OpeningStep) (id retries : ℕ) (stage : Stage) → stage ≡ stages.Opening at id retries → IfSome (takes_reply s stage found f) (Keeps s)
reply_keeps s f found at id retries stage e =
    subst (λ (x : Stage). IfSome (takes_reply s x found f) (Keeps s)) (sym e) (answered_keeps s (answers (opening_command at) id f) found at id retries f)

frame_keeps : (s : ClientState) (f : Frame) (found : Option Code) (at : OpeningStep) (id retries : ℕ) (b : Bool) → s.stage ≡ stages.Opening at id retries → IfSome (takes_by b s found f) (Keeps s)
frame_keeps s f found at id retries true e = reply_keeps s f found at id retries s.stage e
frame_keeps s f found at id retries false e = request_keeps s f.command f

pub opening_keeps : OpeningKeeps
opening_keeps s f found at id retries e = frame_keeps s f found at id retries f.reply e

pub break_keeps : BreakKeeps
break_keeps s = (refl, refl, refl)
