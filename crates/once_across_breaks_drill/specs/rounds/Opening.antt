-- A client opens a link, and logs in there (this profile).
use Rattle.std.specs.Prelude.{◌≡◌, ◌≤◌, ℕ, List, [], ◌∷◌, ◌++◌, length, Some, None, option_map}
use Rattle.afp_calls_grammar.specs.declared.grammar.call.Call.TheVariants.{DisconnectOldSession}
use Rattle.afp_client.specs.session.Opening.{command_frame, login_call, session_call}
use Rattle.afp_client.specs.session.State.{ClientState, Waiting}
use Rattle.afp_client.specs.session.Takes.{most_token, written}
use Rattle.afp_client.specs.declared.session.stage.OpeningStep.{OpeningStep}
use Rattle.afp_client.specs.declared.session.stage.OpeningStep.TheVariants as steps
use Rattle.afp_client.specs.declared.session.stage.Stage.TheVariants.{Opening, Ready}
use Rattle.afp_serial.specs.Answer.{link_number}
use Rattle.afp_serial.specs.Shown.{Shown}
use Rattle.afp_server.specs.declared.link.stage.Stage.TheVariants.{Open}
use Rattle.dsi_frame.specs.Frame.{canonical_frame}
use Rattle.once_across_breaks.specs.same.Steps.{calls_on, login}
use Rattle.once_across_breaks_drill.specs.rounds.Laws.{opening, sweep}
use Rattle.once_across_breaks_drill.specs.declared.rounds.opening.Linked.{Linked}

-- the client, where this request of an opening waits, which was written once
abbrev pub in_step : ClientState → OpeningStep → ℕ → ClientState
in_step s at id = record s { stage = Opening at id 0 }

-- The link is opened, by the two entries of OpenSession, and the login is written.
pub record IsOpened (now : ℕ) (s : ClientState) (out : List ℕ) (t : Shown) (l : Linked) (after : List ℕ) (u : Shown) : Type 0 where
  pub at : l.line.stage ≡ Open (link_number l.link)
  pub state : l.caller ≡ in_step s steps.Login 1
  pub start : u.start ≡ t.start
  pub history : u.history ≡ t.history ++ sweep now ∷ opening now ∷ []
  pub writes : after ≡ out ++ canonical_frame (command_frame 1 (login_call s.login))

-- the login of a client without a name was written
pub record AwaitsLogin (l : Linked) (request : List ℕ) : Type 0 where
  pub stage : l.caller.stage ≡ Opening steps.Login 1 0
  pub guest : l.caller.login.user ≡ None
  pub at : l.line.stage ≡ Open (link_number l.link)
  pub request_is : request ≡ canonical_frame (command_frame 1 (login_call l.caller.login))

-- The login is one entry, and the last request of the opening is written.
pub record IsLoggedIn (now : ℕ) (old : Linked) (out : List ℕ) (t : Shown) (l : Linked) (after : List ℕ) (u : Shown) : Type 0 where
  pub line : l.line ≡ old.line
  pub link : l.link ≡ old.link
  pub state : l.caller ≡ in_step old.caller steps.Session 2
  pub start : u.start ≡ t.start
  pub history : u.history ≡ t.history ++ calls_on old.link now 1 login ∷ []
  pub writes : after ≡ out ++ canonical_frame (command_frame 2 (session_call old.caller.token))

-- both, one behind the other
pub record LogsIn (now : ℕ) (s : ClientState) (out : List ℕ) (t : Shown) (l : Linked) (after : List ℕ) (u : Shown) : Type 0 where
  pub at : l.line.stage ≡ Open (link_number l.link)
  pub state : l.caller ≡ in_step s steps.Session 2
  pub start : u.start ≡ t.start
  pub history : u.history ≡ t.history ++ sweep now ∷ opening now ∷ calls_on l.link now 1 login ∷ []
  pub writes : after ≡ out ++ canonical_frame (command_frame 2 (session_call s.token))

-- ---- the session is taken up again

-- FPDisconnectOldSession was written
pub record AwaitsBack (token : List ℕ) (l : Linked) (request : List ℕ) : Type 0 where
  pub stage : l.caller.stage ≡ Opening steps.Session 2 0
  pub has : l.caller.token ≡ Some token
  pub small : length token ≤ most_token
  pub at : l.line.stage ≡ Open (link_number l.link)
  pub request_is : request ≡ canonical_frame (command_frame 2 (session_call (Some token)))

-- It is one entry; the opening is done, and a request that waits is written again.
pub record IsBack (now : ℕ) (token : List ℕ) (old : Linked) (out : List ℕ) (t : Shown) (l : Linked) (after : List ℕ) (u : Shown) : Type 0 where
  pub line : l.line ≡ old.line
  pub link : l.link ≡ old.link
  pub state : l.caller ≡ record old.caller { stage = Ready }
  pub start : u.start ≡ t.start
  pub history : u.history ≡ t.history ++ calls_on old.link now 2 (DisconnectOldSession 0 token) ∷ []
  pub writes : after ≡ out ++ written (option_map (λ (w : Waiting). w.request) old.caller.waiting)
