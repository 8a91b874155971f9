-- A client without a name that has its session's token, on a link that is opened (this profile).
use Rattle.std.specs.Prelude.{◌≡◌, ◌≤◌, ℕ, suc, false, List, [], ◌∷◌, ◌++◌, length, Option, Some, None}
use Rattle.afp_base.specs.Cached.{Answer}
use Rattle.afp_base.specs.declared.code.Code.{Code}
use Rattle.afp_base.specs.declared.code.Code.TheVariants as code
use Rattle.afp_calls_grammar.specs.declared.grammar.call.Call.{Call}
use Rattle.afp_client.specs.session.Opening.{command_frame, session_call}
use Rattle.afp_client.specs.session.State.{Waiting, call_frame}
use Rattle.afp_client.specs.session.Takes.{most_token, token_in}
use Rattle.afp_client.specs.declared.session.stage.OpeningStep.TheVariants as steps
use Rattle.afp_client.specs.declared.session.stage.Stage.TheVariants.{Opening, Ready}
use Rattle.afp_serial.specs.Answer.{answer, link_number}
use Rattle.afp_serial.specs.History.{stand}
use Rattle.afp_serial.specs.Household.{Household}
use Rattle.afp_serial.specs.Shown.{Shown}
use Rattle.afp_serial.specs.Token.{session_token}
use Rattle.afp_serial.specs.World.{fresh_world}
use Rattle.afp_serial.specs.declared.ask.Told.{Told}
use Rattle.afp_serial.specs.declared.ask.Told.TheVariants as tells
use Rattle.afp_server.specs.declared.link.stage.Stage.TheVariants.{Open}
use Rattle.dsi_frame.specs.Frame.{IsGood, canonical_frame}
use Rattle.dsi_session.specs.RequestIds.{id_after}
use Rattle.once_across_breaks.specs.same.Steps.{asks_token, calls_on, login, rejoins}
use Rattle.once_across_breaks_drill.specs.rounds.Laws.{opening, sweep}
use Rattle.once_across_breaks_drill.specs.rounds.Lines.{LineState}
use Rattle.once_across_breaks_drill.specs.declared.rounds.opening.Linked.{Linked}
use Rattle.once_across_breaks_drill.specs.declared.rounds.calls.Answered.{Answered}

-- the client has this token, this request waits, and its next call has this id
pub record IsLinked (token : List ℕ) (waiting : Option Waiting) (id : ℕ) (l : Linked) : Type 0 where
  pub state : l.caller ≡ record { login = record { user = None }; stage = Ready; token = Some token; waiting = waiting; next_id = id }
  pub at : l.line.stage ≡ Open (link_number l.link)
  pub small : length token ≤ most_token

-- ---- the first link

-- FPGetSessionToken was written, and is told this token
pub record AwaitsToken (now : ℕ) (token : List ℕ) (l : Linked) (request : List ℕ) (t : Shown) : Type 0 where
  pub state : l.caller ≡ record { login = record { user = None }; stage = Opening steps.Session 2 0; token = None; waiting = None; next_id = 0 }
  pub at : l.line.stage ≡ Open (link_number l.link)
  pub request_is : request ≡ canonical_frame (command_frame 2 (session_call None))
  pub small : length token ≤ most_token
  pub told : (c : Code) (block : List ℕ) → answer (stand t.start t.history) (calls_on l.link now 2 asks_token) ≡ tells.Reply c block false → (c ≡ code.Ok) × (token_in block ≡ Some token)

-- It is one entry, and the client has the token.
pub record HasToken (now : ℕ) (token : List ℕ) (old : Linked) (t : Shown) (l : Linked) (u : Shown) : Type 0 where
  pub linked : IsLinked token None 3 l
  pub link : l.link ≡ old.link
  pub start : u.start ≡ t.start
  pub history : u.history ≡ t.history ++ calls_on old.link now 2 asks_token ∷ []

-- The first link of a server that nobody has asked: the client's session is the first, and it has its token.
pub record IsFirstLink (house : Household) (now : ℕ) (l : Linked) (u : Shown) : Type 0 where
  pub linked : IsLinked (session_token house.token_key 1) None 3 l
  pub link : l.link ≡ 1
  pub start : u.start ≡ fresh_world house now
  pub history : u.history ≡ sweep now ∷ opening now ∷ calls_on 1 now 1 login ∷ calls_on 1 now 2 asks_token ∷ []

-- ---- a call

-- the request of a call that waits
abbrev pub waits : ℕ → Call → Waiting
waits id call = record { request = call_frame id call; retries = 0 }

-- the bytes are its frame
pub record IsWritten (id : ℕ) (call : Call) (request : List ℕ) : Type 0 where
  pub good : IsGood (call_frame id call)
  pub spelt : request ≡ canonical_frame (call_frame id call)

-- A call is asked: its request is written, and waits.
pub record Asks (token : List ℕ) (id : ℕ) (call : Call) (old : Linked) (out : List ℕ) (l : Linked) (after : List ℕ) : Type 0 where
  pub linked : IsLinked token (Some (waits id call)) (id_after id) l
  pub link : l.link ≡ old.link
  pub good : IsGood (call_frame id call)
  pub writes : after ≡ out ++ canonical_frame (call_frame id call)

-- a call that was written waits at a client on its link
pub record WaitsFor (token : List ℕ) (id next : ℕ) (call : Call) (l : Linked) (request : List ℕ) : Type 0 where
  pub linked : IsLinked token (Some (waits id call)) next l
  pub written : IsWritten id call request

-- a result of a call, as the answer to its ask
abbrev pub as_told : Answer → Told
as_told a = tells.Reply a.code a.block false

-- The call is one entry. What it is told comes to the client, which waits for nothing.
pub record IsAnswered (now : ℕ) (token : List ℕ) (id next : ℕ) (call : Call) (old : Linked) (t : Shown) (a : Answered) (u : Shown) : Type 0 where
  pub linked : IsLinked token None next a.linked
  pub link : a.linked.link ≡ old.link
  pub told : as_told a.answer ≡ answer (stand t.start t.history) (calls_on old.link now id call)
  pub start : u.start ≡ t.start
  pub history : u.history ≡ t.history ++ calls_on old.link now id call ∷ []

-- The call is one entry, and its reply is lost.
pub record IsServed (now link id : ℕ) (call : Call) (old : LineState) (t : Shown) (line : LineState) (u : Shown) : Type 0 where
  pub line_is : line ≡ old
  pub start : u.start ≡ t.start
  pub history : u.history ≡ t.history ++ calls_on link now id call ∷ []

-- ---- the client comes back

-- The link is lost, and the client comes back on the next one, by the entries of the law of breaks. Its request is written again, as it was.
pub record ComesBack (now : ℕ) (token : List ℕ) (w : Waiting) (next : ℕ) (old : Linked) (out : List ℕ) (t : Shown) (l : Linked) (after : List ℕ) (u : Shown) : Type 0 where
  pub linked : IsLinked token (Some w) next l
  pub link : l.link ≡ suc old.link
  pub start : u.start ≡ t.start
  pub history : u.history ≡ t.history ++ rejoins token old.link now
  pub writes : after ≡ out ++ canonical_frame w.request
