-- The steps of an opening, and what the client does with its replies.
use Rattle.std.proofs.Common.{◌≡◌, ◌≢◌, ◌∙◌, refl, sym, ap, subst, ℕ, ◌≤◌, Bool, true, false, List, [], ◌∷◌, ◌++◌, length, Option, Some, None, lit<, lit≤, append-nil, append_assoc}
use Rattle.std.specs.Prelude.{if◌then◌else◌, unwrap_or}
use Rattle.afp_base.specs.declared.code.Code.{Code}
use Rattle.afp_base.specs.declared.code.Code.TheVariants as code
use Rattle.afp_base.specs.declared.ids.LinkNumber.{LinkNumber}
use Rattle.afp_calls_grammar.specs.grammar.Call.{canonical_call, canonical_data}
use Rattle.afp_calls_grammar.specs.declared.grammar.call.Call.{Call}
use Rattle.afp_calls_grammar.specs.declared.grammar.call.Call.TheVariants as calls
use Rattle.afp_client.proofs.OfSession.OpeningLemmas.{rejoin-fits}
use Rattle.afp_client.specs.session.Opening.{command_frame, login_call, login_of, open_session_frame, session_call}
use Rattle.afp_client.specs.session.State.{ClientState, call_frame, framed_call, is_lost}
use Rattle.afp_client.specs.session.Takes.{Step, begun, is_ok, is_retried, most_token, opened, refusal, session_refusal, session_told, step, takes, takes_reply, writes_opening, written}
use Rattle.afp_client.specs.declared.session.event.Event.TheVariants as events
use Rattle.afp_client.specs.declared.session.stage.OpeningStep.TheVariants as steps
use Rattle.afp_client.specs.declared.session.stage.Stage.{Stage}
use Rattle.afp_client.specs.declared.session.stage.Stage.TheVariants as stages
use Rattle.afp_serial.specs.Answer.{link_number}
use Rattle.afp_serial.specs.Shown.{Shown}
use Rattle.afp_serial.specs.declared.ask.Entry.{Entry}
use Rattle.afp_serial.specs.declared.ask.Told.{Told}
use Rattle.afp_serial.specs.declared.ask.Told.TheVariants as tells
use Rattle.afp_server.specs.link.OpenSession.{OpenTold, option_bytes}
use Rattle.afp_server.specs.link.Wire.{open_link}
use Rattle.afp_server.specs.declared.link.stage.Stage.{Stage as LineStage}
use Rattle.afp_server.specs.declared.link.stage.Stage.TheVariants.{Open}
use Rattle.dsi_frame.specs.Frame.{Frame, IsGood, canonical_frame}
use Rattle.dsi_frame.specs.Replies.{listed, reply_to, spelling_of}
use Rattle.once_across_breaks.specs.same.Steps.{calls_on, login}
use Rattle.once_across_breaks_drill.specs.rounds.Callers.{IsNextStep}
use Rattle.once_across_breaks_drill.specs.rounds.Laws.{OpeningsAreTold, TellsOpening, opening, sweep}
use Rattle.once_across_breaks_drill.specs.rounds.Lines.{LineState, ServesLine}
use Rattle.once_across_breaks_drill.specs.rounds.Opening.{AwaitsBack, AwaitsLogin, IsBack, IsLoggedIn, IsOpened, LogsIn, in_step}
use Rattle.once_across_breaks_drill.specs.rounds.Rounds.{ComesTo, IsAsked, IsRound, opening_does}
use Rattle.once_across_breaks_drill.specs.declared.rounds.opening.Linked.{Linked}
use Rattle.once_across_breaks_drill.specs.declared.rounds.round.Round.{Round}
use Rattle.once_across_breaks_drill.proofs.OfRounds.Exchanging.{login-taken, no-data-login, no-data-session, opening-taken}

-- ---- codes

-- no other code is written again
pub plain : (c : Code) (retries : ℕ) → c ≢ code.NoMemory → is_retried c retries ≡ false
plain code.NoMemory retries other = absurd (other refl)
plain c retries other = refl

-- ---- a round behind which the link goes on

pub came : (now link id : ℕ) (call : Call) (does : Code → List ℕ → Step) (line : LineState) (out : List ℕ) (t : Shown) (o : Option Round) (r : Round) (after : List ℕ) (u : Shown) → o ≡ Some r
    → ComesTo now link id call does line out t o after u → IsRound now link id call does line out t r after u
came now link id call does line out t o r after u is x = subst (λ (p : Option Round). ComesTo now link id call does line out t p after u) is x

-- ---- what the events say of the steps

pub login-goes : (s : ClientState) (c : Code) (block : List ℕ) → c ≢ code.NoMemory → (opening_does s steps.Login 1 0 c block).event ≡ events.Step → opening_does s steps.Login 1 0 c block ≡ writes_opening s steps.Session 2 0
login-goes s c block other goes = by (is_retried c 0) (is_ok c) (plain c 0 other) goes
  where
    by : (b d : Bool) → b ≡ false
        → (unwrap_or (if b then Some (writes_opening s steps.Login 2 1) else if d then Some (writes_opening s steps.Session 2 0) else Some (step (record s { stage = stages.Lost }) None (refusal s.token steps.Login c))) (step s None events.Step)).event ≡ events.Step
        → unwrap_or (if b then Some (writes_opening s steps.Login 2 1) else if d then Some (writes_opening s steps.Session 2 0) else Some (step (record s { stage = stages.Lost }) None (refusal s.token steps.Login c))) (step s None events.Step) ≡ writes_opening s steps.Session 2 0
    by true d none e = absurd (cc none)
    by false true none e = refl
    by false false none e = absurd (cc e)

pub back-goes : (s : ClientState) (token : List ℕ) (c : Code) (block : List ℕ) → s.token ≡ Some token → (opening_does s steps.Session 2 0 c block).event ≡ events.Ready → opening_does s steps.Session 2 0 c block ≡ opened s
back-goes s token c block has goes = by (is_retried c 0) (is_ok c) s.token has goes
  where
    by : (b d : Bool) (o : Option (List ℕ)) → o ≡ Some token
        → (unwrap_or (if b then Some (writes_opening s steps.Session 3 1) else if d then session_told s o 2 block else Some (step (record s { stage = stages.Lost }) None (session_refusal o c))) (step s None events.Step)).event ≡ events.Ready
        → unwrap_or (if b then Some (writes_opening s steps.Session 3 1) else if d then session_told s o 2 block else Some (step (record s { stage = stages.Lost }) None (session_refusal o c))) (step s None events.Step) ≡ opened s
    by true d o has e = absurd (cc e)
    by false true None has e = absurd (cc has)
    by false true (Some x) has e = refl
    by false false None has e = absurd (cc has)
    by false false (Some x) has e = absurd (cc e)

-- ---- OpenSession

pub session-good : IsGood (open_session_frame 0)
session-good = record { id = lit< tt; word = lit< tt; payload = lit≤ tt; offset = tt }

-- what an open session says of what Open was told
pub record SaysOpened (f : Frame) (reply : Option Frame) (stage : LineStage) (link : ℕ) : Type 0 where
  pub reply_is : reply ≡ Some (reply_to f code.Ok option_bytes)
  pub stage_is : stage ≡ Open (link_number link)

same-link : (a b : LinkNumber) → Some a ≡ Some b → a ≡ b
same-link a b e = cc

says-opened : (f : Frame) (t : Told) (reply : Option Frame) (stage : LineStage) (link : ℕ) → OpenTold f t reply stage → open_link stage ≡ Some (link_number link) → SaysOpened f reply stage link
says-opened f (tells.Opened l) reply stage link x is = record {
  reply_is = x.0;
  stage_is = x.1 ∙ ap Open (same-link l (link_number link) (sym (ap open_link x.1) ∙ is));
}
says-opened f (tells.Reply c block ends) reply stage link x is = absurd (cc (sym (ap open_link x.1) ∙ is))
says-opened f tells.Memory reply stage link x is = absurd (cc (sym (ap open_link x.1) ∙ is))
says-opened f (tells.Live drain) reply stage link x is = absurd x
says-opened f tells.Done reply stage link x is = absurd x
says-opened f tells.Displaced reply stage link x is = absurd x

takes-opening : (s : ClientState) (payload : List ℕ) → s.stage ≡ stages.Opening steps.OpenSession 0 0 → takes s (Some code.Ok) (reply_to (open_session_frame 0) code.Ok payload) ≡ Some (writes_opening s steps.Login 1 0)
takes-opening s payload stage = ap (λ (x : Stage). takes_reply s x (Some code.Ok) (reply_to (open_session_frame 0) code.Ok payload)) stage

-- OpenSession was told that a session is open, and its reply is the client's next step.
pub record OpensNext (now : ℕ) (s : ClientState) (line : LineState) (link : ℕ) (bytes : List ℕ) (t u : Shown) : Type 0 where
  pub at : line.stage ≡ Open (link_number link)
  pub start : u.start ≡ t.start
  pub history : u.history ≡ t.history ++ sweep now ∷ opening now ∷ []
  pub next : IsNextStep s bytes (reply_to (open_session_frame 0) code.Ok option_bytes) code.Ok (writes_opening s steps.Login 1 0)

opens-next : (now link : ℕ) (s : ClientState) (old line : LineState) (bytes : List ℕ) (t u : Shown)
    → s.stage ≡ stages.Opening steps.OpenSession 0 0 → open_link line.stage ≡ Some (link_number link) → TellsOpening now 0 old [] t line bytes u → OpensNext now s line link bytes t u
opens-next now link s old line bytes t u stage is x =
    let y = says-opened (open_session_frame 0) x.told x.reply line.stage link x.says is in
    let f : Frame = reply_to (open_session_frame 0) code.Ok option_bytes in
    record {
      at = y.stage_is;
      start = x.start;
      history = x.history;
      next = record {
        good = record { id = lit< tt; word = lit< tt; payload = lit≤ tt; offset = tt };
        spelt = x.sent_is ∙ ap (λ (r : Option Frame). spelling_of (listed r)) y.reply_is ∙ append-nil (canonical_frame f);
        word = refl;
        live = ap is_lost stage;
        taken = takes-opening s option_bytes stage;
        kind = refl;
      };
    }

-- with what was served where nothing was in `out`
pub opens-served : OpeningsAreTold → (now link : ℕ) (first s : ClientState) (old line : LineState) (o : Option LineState) (before sent bytes : List ℕ) (t u : Shown)
    → s ≡ begun first → first.stage ≡ stages.Unlinked → open_link line.stage ≡ Some (link_number link) → old.stage ≡ LineStage.Fresh → before ≡ [] → o ≡ Some line → bytes ≡ sent
    → ServesLine now (open_session_frame 0) old before t o sent u → OpensNext now s line link bytes t u
opens-served told now link first s old line o before sent bytes t u begins unlinked is fresh empty there same serves =
    let stage : s.stage ≡ stages.Opening steps.OpenSession 0 0 = ap (λ (x : ClientState). x.stage) begins ∙ ap (λ (x : Stage). (begun (record first { stage = x })).stage) unlinked in
    subst (λ (b : List ℕ). OpensNext now s line link b t u) (sym same)
    (opens-next now link s old line sent t u stage is
    (told now 0 old line [] sent t u fresh
    (subst (λ (l : Option LineState). ServesLine now (open_session_frame 0) old [] t l sent u) there
    (subst (λ (b : List ℕ). ServesLine now (open_session_frame 0) old b t o sent u) empty serves))))

pub is-opened : (now : ℕ) (first s : ClientState) (out : List ℕ) (t : Shown) (l : Linked) (bytes after : List ℕ) (u : Shown) → s ≡ begun first → OpensNext now s l.line l.link bytes t u
    → l.caller ≡ (writes_opening s steps.Login 1 0).state → after ≡ out ++ written (writes_opening s steps.Login 1 0).writes → IsOpened now first out t l after u
is-opened now first s out t l bytes after u begins x state writes = record {
  at = x.at;
  state = state ∙ ap (λ (y : ClientState). in_step y steps.Login 1) begins;
  start = x.start;
  history = x.history;
  writes = writes ∙ ap (λ (y : ClientState). out ++ canonical_frame (command_frame 1 (login_call y.login))) begins;
}

-- ---- the login

login-alone : canonical_data login ≡ None
login-alone = no-data-login None

login-frame : command_frame 1 login ≡ call_frame 1 login
login-frame = sym (ap (framed_call 1 login) login-alone)

login-good : IsGood (command_frame 1 login)
unfolding canonical_call
login-good = record { id = lit< tt; word = lit< tt; payload = lit≤ tt; offset = tt }

pub login-asked : (now : ℕ) (l : Linked) (request : List ℕ) (t : Shown) → AwaitsLogin l request → IsAsked now l.caller l.line request t l.link 1 login (opening_does l.caller steps.Login 1 0)
login-asked now l request t a =
    let frame : command_frame 1 (login_call l.caller.login) ≡ call_frame 1 login = ap (λ (user : Option (List ℕ × List ℕ)). command_frame 1 (login_of user)) a.guest ∙ login-frame in
    record {
      live = ap is_lost a.stage;
      good = subst IsGood login-frame login-good;
      spelt = a.request_is ∙ ap canonical_frame frame;
      at = a.at;
      takes_it = λ c block told. (login-taken l.caller 1 0 login c block a.stage login-alone).0;
      kind = λ c block. (login-taken l.caller 1 0 login c block a.stage login-alone).1;
    }

pub is-logged-in : (now : ℕ) (old l : Linked) (out : List ℕ) (t : Shown) (r : Round) (after : List ℕ) (u : Shown) → IsRound now old.link 1 login (opening_does old.caller steps.Login 1 0) old.line out t r after u
    → r.event ≡ events.Step → l.caller ≡ r.caller → l.line ≡ r.line → l.link ≡ old.link → IsLoggedIn now old out t l after u
is-logged-in now old l out t r after u x event caller line link =
    let goes = login-goes old.caller x.tells.code x.tells.block x.other (sym x.event ∙ event) in
    record {
      line = line ∙ x.tells.stays;
      link = link;
      state = caller ∙ x.state ∙ ap (λ (y : Step). y.state) goes;
      start = x.tells.start;
      history = x.tells.history;
      writes = x.writes ∙ ap (λ (y : Step). out ++ written y.writes) goes;
    }

-- both
pub awaits-login : (now : ℕ) (s : ClientState) (out first : List ℕ) (t : Shown) (l : Linked) (after : List ℕ) (u : Shown) → s.login.user ≡ None → out ≡ [] → first ≡ after → IsOpened now s out t l after u → AwaitsLogin l first
awaits-login now s out first t l after u guest empty same x = record {
  stage = ap (λ (y : ClientState). y.stage) x.state;
  guest = ap (λ (y : ClientState). y.login.user) x.state ∙ guest;
  at = x.at;
  request_is = same ∙ x.writes ∙ ap (λ (o : List ℕ). o ++ canonical_frame (command_frame 1 (login_call s.login))) empty ∙ ap (λ (y : ClientState). canonical_frame (command_frame 1 (login_call y.login))) (sym x.state);
}

pub logs-in : (now : ℕ) (s : ClientState) (first before out after : List ℕ) (t v u : Shown) (mid l : Linked) → IsOpened now s first t mid before v → IsLoggedIn now mid out v l after u → LogsIn now s out t l after u
logs-in now s first before out after t v u mid l x y = record {
  at = ap (λ (b : LineState). b.stage) y.line ∙ x.at ∙ ap (λ (n : ℕ). Open (link_number n)) (sym y.link);
  state = y.state ∙ ap (λ (z : ClientState). in_step z steps.Session 2) x.state;
  start = y.start ∙ x.start;
  history = y.history
      ∙ ap (λ (h : List Entry). h ++ calls_on mid.link now 1 login ∷ []) x.history
      ∙ append_assoc t.history (sweep now ∷ opening now ∷ []) (calls_on mid.link now 1 login ∷ [])
      ∙ ap (λ (n : ℕ). t.history ++ sweep now ∷ opening now ∷ calls_on n now 1 login ∷ []) (sym y.link);
  writes = y.writes ∙ ap (λ (z : ClientState). out ++ canonical_frame (command_frame 2 (session_call z.token))) x.state;
}

-- ---- FPDisconnectOldSession

abbrev pub back : List ℕ → Call
back token = calls.DisconnectOldSession 0 token

back-frame : (token : List ℕ) → command_frame 2 (back token) ≡ call_frame 2 (back token)
back-frame token = sym (ap (framed_call 2 (back token)) (no-data-session (Some token)))

back-good : (token : List ℕ) → length token ≤ most_token → IsGood (command_frame 2 (back token))
back-good token small = record { id = lit< tt; word = lit< tt; payload = rejoin-fits token small; offset = tt }

pub back-asked : (now : ℕ) (token : List ℕ) (l : Linked) (request : List ℕ) (t : Shown) → AwaitsBack token l request → IsAsked now l.caller l.line request t l.link 2 (back token) (opening_does l.caller steps.Session 2 0)
back-asked now token l request t a =
    let is : Some (session_call l.caller.token) ≡ Some (back token) = ap (λ (o : Option (List ℕ)). Some (session_call o)) a.has in
    record {
      live = ap is_lost a.stage;
      good = subst IsGood (back-frame token) (back-good token a.small);
      spelt = a.request_is ∙ ap canonical_frame (back-frame token);
      at = a.at;
      takes_it = λ c block told. (opening-taken l.caller steps.Session 2 0 token (back token) c block a.stage a.has is).0;
      kind = λ c block. (opening-taken l.caller steps.Session 2 0 token (back token) c block a.stage a.has is).1;
    }

pub is-back : (now : ℕ) (token : List ℕ) (old l : Linked) (out : List ℕ) (t : Shown) (r : Round) (after : List ℕ) (u : Shown) → old.caller.token ≡ Some token
    → IsRound now old.link 2 (back token) (opening_does old.caller steps.Session 2 0) old.line out t r after u
    → r.event ≡ events.Ready → l.caller ≡ r.caller → l.line ≡ r.line → l.link ≡ old.link → IsBack now token old out t l after u
is-back now token old l out t r after u has x event caller line link =
    let goes = back-goes old.caller token x.tells.code x.tells.block has (sym x.event ∙ event) in
    record {
      line = line ∙ x.tells.stays;
      link = link;
      state = caller ∙ x.state ∙ ap (λ (y : Step). y.state) goes;
      start = x.tells.start;
      history = x.tells.history;
      writes = x.writes ∙ ap (λ (y : Step). out ++ written y.writes) goes;
    }
