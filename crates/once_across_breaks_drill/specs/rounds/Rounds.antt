-- A round: a call that was written goes to the line, and its reply to the client (this profile).
use Rattle.std.specs.Prelude.{◌≡◌, ◌≢◌, ℕ, true, false, List, [], ◌++◌, Option, Some, None, unwrap_or}
use Rattle.afp_base.specs.declared.code.Code.{Code}
use Rattle.afp_base.specs.declared.code.Code.TheVariants.{NoMemory}
use Rattle.afp_calls_grammar.specs.declared.grammar.call.Call.{Call}
use Rattle.afp_client.specs.session.Opening.{login_call, session_call}
use Rattle.afp_client.specs.session.State.{ClientState, Waiting, call_frame, is_lost}
use Rattle.afp_client.specs.session.Takes.{Step, opening_replied, step, takes, waiting_replied, written}
use Rattle.afp_client.specs.declared.session.event.Event.TheVariants as events
use Rattle.afp_client.specs.declared.session.login.Login.{Login}
use Rattle.afp_client.specs.declared.session.stage.OpeningStep.{OpeningStep}
use Rattle.afp_client.specs.declared.session.stage.OpeningStep.TheVariants as steps
use Rattle.afp_client.specs.declared.session.stage.Stage.TheVariants.{Opening, Ready}
use Rattle.afp_serial.specs.Answer.{answer, link_number}
use Rattle.afp_serial.specs.History.{stand}
use Rattle.afp_serial.specs.Shown.{Shown}
use Rattle.afp_serial.specs.declared.ask.Told.TheVariants as tells
use Rattle.afp_server.specs.declared.link.stage.Stage.TheVariants.{Open}
use Rattle.dsi_frame.specs.Frame.{IsGood, canonical_frame}
use Rattle.dsi_frame.specs.Replies.{reply_to}
use Rattle.once_across_breaks.specs.same.Steps.{calls_on}
use Rattle.once_across_breaks_drill.specs.rounds.Callers.{is_taken}
use Rattle.once_across_breaks_drill.specs.rounds.Laws.{TellsCall}
use Rattle.once_across_breaks_drill.specs.rounds.Lines.{LineState, ServesLine}
use Rattle.once_across_breaks_drill.specs.declared.rounds.round.Round.{Round}

-- The request of a call was written, and a session is open on the line. Whatever the call is told there, the client takes it, and does this.
pub record IsAsked (now : ℕ) (s : ClientState) (line : LineState) (request : List ℕ) (t : Shown) (link id : ℕ) (call : Call) (does : Code → List ℕ → Step) : Type 0 where
  pub live : is_lost s.stage ≡ false
  pub good : IsGood (call_frame id call)
  pub spelt : request ≡ canonical_frame (call_frame id call)
  pub at : line.stage ≡ Open (link_number link)
  pub takes_it : (code : Code) (block : List ℕ) → answer (stand t.start t.history) (calls_on link now id call) ≡ tells.Reply code block false → takes s (Some code) (reply_to (call_frame id call) code block) ≡ Some (does code block)
  pub kind : (code : Code) (block : List ℕ) → is_taken (does code block).event ≡ true

-- The call was one entry. What it is told, which is never NoMemory, came to the client, which did so.
pub record IsRound (now link id : ℕ) (call : Call) (does : Code → List ℕ → Step) (line : LineState) (out : List ℕ) (t : Shown) (r : Round) (after : List ℕ) (u : Shown) : Type 0 where
  pub sent : List ℕ
  pub tells : TellsCall now link id call line [] t r.line sent u
  pub other : tells.code ≢ NoMemory
  pub state : r.caller ≡ (does tells.code tells.block).state
  pub event : r.event ≡ (does tells.code tells.block).event
  pub writes : after ≡ out ++ written (does tells.code tells.block).writes

-- by whether the link goes on behind it
abbrev pub ComesTo : ℕ → ℕ → ℕ → Call → (Code → List ℕ → Step) → LineState → List ℕ → Shown → Option Round → List ℕ → Shown → Type 0
ComesTo now link id call does line out t None after u = (sent : List ℕ) × ServesLine now (call_frame id call) line [] t None sent u
ComesTo now link id call does line out t (Some r) after u = IsRound now link id call does line out t r after u

-- ---- what the client does

-- with the reply to a call that waits
abbrev pub waiting_does : ClientState → Waiting → Code → List ℕ → Step
waiting_does s w code block = waiting_replied s w code block

-- with the reply to a request of an opening
abbrev pub opening_does : ClientState → OpeningStep → ℕ → ℕ → Code → List ℕ → Step
opening_does s at id retries code block = unwrap_or (opening_replied s at id retries code block) (step s None events.Step)

-- the calls of an opening
abbrev pub opening_call : Login → Option (List ℕ) → OpeningStep → Option Call
opening_call login token steps.OpenSession = None
opening_call login token steps.Login = Some (login_call login)
opening_call login token steps.Session = Some (session_call token)

-- The law: so it is with a call that waits at a client whose link is opened.
abbrev pub WaitingIsTaken : Type 0
WaitingIsTaken =
    (s : ClientState) (w : Waiting) (id : ℕ) (call : Call) (code : Code) (block : List ℕ)
    → s.stage ≡ Ready → s.waiting ≡ Some w → w.request ≡ call_frame id call
    → (takes s (Some code) (reply_to (call_frame id call) code block) ≡ Some (waiting_does s w code block)) × (is_taken (waiting_does s w code block).event ≡ true)

-- The law: so it is with the calls of an opening of a client that comes back.
abbrev pub OpeningIsTaken : Type 0
OpeningIsTaken =
    (s : ClientState) (at : OpeningStep) (id retries : ℕ) (token : List ℕ) (call : Call) (code : Code) (block : List ℕ)
    → s.stage ≡ Opening at id retries → s.token ≡ Some token → opening_call s.login s.token at ≡ Some call
    → (takes s (Some code) (reply_to (call_frame id call) code block) ≡ Some (opening_does s at id retries code block)) × (is_taken (opening_does s at id retries code block).event ≡ true)
