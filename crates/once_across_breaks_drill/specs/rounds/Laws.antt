-- What the requests of a client are told at a line, and which entries they are (this profile).
use Rattle.std.specs.Prelude.{◌≡◌, ℕ, false, List, [], ◌∷◌, ◌++◌, Option, Some}
use Rattle.afp_base.specs.declared.code.Code.{Code}
use Rattle.afp_calls_grammar.specs.declared.grammar.call.Call.{Call}
use Rattle.afp_client.specs.session.Opening.{open_session_frame}
use Rattle.afp_client.specs.session.State.{call_frame}
use Rattle.afp_serial.specs.Answer.{answer, link_number}
use Rattle.afp_serial.specs.History.{entry, stand}
use Rattle.afp_serial.specs.Shown.{Shown}
use Rattle.afp_serial.specs.declared.ask.Ask.TheVariants as asks
use Rattle.afp_serial.specs.declared.ask.Entry.{Entry}
use Rattle.afp_serial.specs.declared.ask.Outcome.TheVariants.{Done}
use Rattle.afp_serial.specs.declared.ask.Told.{Told}
use Rattle.afp_serial.specs.declared.ask.Told.TheVariants as tells
use Rattle.afp_server.specs.link.OpenSession.{OpenTold}
use Rattle.afp_server.specs.declared.link.stage.Stage.TheVariants.{Fresh, Open}
use Rattle.dsi_frame.specs.Frame.{Frame, canonical_frame}
use Rattle.dsi_frame.specs.Replies.{listed, reply_to, spelling_of}
use Rattle.once_across_breaks.specs.same.Steps.{calls_on, quantum}
use Rattle.once_across_breaks_drill.specs.rounds.Lines.{LineState, ServesLine}

-- A call is one entry. It is told a code and a block, the serial answer, and the reply to its frame has both.
pub record TellsCall (now link id : ℕ) (call : Call) (old : LineState) (out : List ℕ) (t : Shown) (line : LineState) (sent : List ℕ) (u : Shown) : Type 0 where
  pub code : Code
  pub block : List ℕ
  pub told : answer (stand t.start t.history) (calls_on link now id call) ≡ tells.Reply code block false
  pub start : u.start ≡ t.start
  pub history : u.history ≡ t.history ++ calls_on link now id call ∷ []
  pub sent_is : sent ≡ out ++ canonical_frame (reply_to (call_frame id call) code block)
  pub stays : line ≡ old

-- the law: so it is with each call on a link that goes on behind it
abbrev pub CallsAreTold : Type 0
CallsAreTold =
    (now link id : ℕ) (call : Call) (old line : LineState) (out sent : List ℕ) (t u : Shown)
    → old.stage ≡ Open (link_number link)
    → ServesLine now (call_frame id call) old out t (Some line) sent u
    → TellsCall now link id call old out t line sent u

-- the entries of an OpenSession: the sweep, and Open
abbrev pub sweep : ℕ → Entry
sweep now = entry now (link_number 0) asks.Pulse Done

abbrev pub opening : ℕ → Entry
opening now = entry now (link_number 0) (asks.Open quantum) Done

-- An OpenSession is these two entries. The link comes to a session where Open is told one, and the reply says so.
pub record TellsOpening (now id : ℕ) (old : LineState) (out : List ℕ) (t : Shown) (line : LineState) (sent : List ℕ) (u : Shown) : Type 0 where
  pub told : Told
  pub is : told ≡ answer (stand t.start (t.history ++ sweep now ∷ [])) (opening now)
  pub start : u.start ≡ t.start
  pub history : u.history ≡ t.history ++ sweep now ∷ opening now ∷ []
  pub reply : Option Frame
  pub says : OpenTold (open_session_frame id) told reply line.stage
  pub sent_is : sent ≡ out ++ spelling_of (listed reply)
  pub block : line.block ≡ old.block

-- the law: so it is with each OpenSession on a link that nothing has come on
abbrev pub OpeningsAreTold : Type 0
OpeningsAreTold =
    (now id : ℕ) (old line : LineState) (out sent : List ℕ) (t u : Shown)
    → old.stage ≡ Fresh
    → ServesLine now (open_session_frame id) old out t (Some line) sent u
    → TellsOpening now id old out t line sent u

-- The law: no OpenSession ends its link.
abbrev pub OpeningsGoOn : Type 0
OpeningsGoOn =
    (now id : ℕ) (old : LineState) (out sent : List ℕ) (t u : Shown) (line : Option LineState)
    → old.stage ≡ Fresh
    → ServesLine now (open_session_frame id) old out t line sent u
    → (behind : LineState) × (line ≡ Some behind)
