-- Each command of the client has its effect once and in order: over every schedule of the law over bytes along which the client makes its calls.
use Rattle.std.specs.Prelude.{◌≡◌, ◌<◌, ◌⊎◌, ℕ, true, List, [], ◌∷◌, ◌++◌, Option, Some, None}
use Rattle.afp_base.specs.Bytes.{IsBytes}
use Rattle.afp_base.specs.declared.code.Code.{Code}
use Rattle.dsi_frame.specs.Stream.{IsUnfinished}
use Rattle.afp_calls_grammar.specs.declared.grammar.call.Call as grammar
use Rattle.afp_serial.specs.Token.{session_token}
use Rattle.afp_serial.specs.World.{World}
use Rattle.afp_client.specs.session.Happens.{TakesNext}
use Rattle.afp_client.specs.session.Run.{Result}
use Rattle.afp_client.specs.session.State as states
use Rattle.afp_client.specs.session.State.{IsReady, is_lost}
use Rattle.afp_client.specs.session.Takes.{asked, begun}
use Rattle.afp_client.specs.declared.session.event.Event.{Event}
use Rattle.afp_client.specs.declared.session.event.Event.TheVariants as events
use Rattle.afp_client.specs.declared.session.login.Login as logins
use Rattle.once_across_breaks.specs.once.Messages.{Call, Done, kept}
use Rattle.once_across_breaks.specs.once.Server.{Entry, numbers_end}
use Rattle.once_across_breaks.specs.once.Once.{effective}
use Rattle.once_across_breaks.specs.once.Bytes.{AllLineAllowed, Breaks, ByteEvent, Commands, Drains, Ends, Line, Loses, Others, Quiet, ToClient, ToServer, line_run, line_start, line_step}
use Rattle.once_across_breaks.specs.once.Dsi.{dsi}
use Rattle.once_across_breaks.specs.once.Serial.{IsSoundUnder, Setup, machine}
use Rattle.once_across_breaks_code.specs.client.Requests.{IsCall, LogsIn}
use Rattle.once_across_breaks_code.specs.client.Related.{made_client}
use Rattle.once_across_breaks_code.specs.client.Steps.{waits_behind}
use Rattle.once_across_breaks_code.specs.client.Runs.{AreResults}
use Rattle.once_across_breaks_code.specs.client.OnLines.{IsFed, on_link}

-- A client with its log: the call that waits, and what it was told of the calls before, in order.
pub record Player : Type 0 where
  pub core : states.Client
  pub call : Option grammar.Call
  pub told : List Result

abbrev pub told_call : Option grammar.Call → Code → List ℕ → List Result
told_call None c block = []
told_call (Some call) c block = record { call = call; code = c; block = block } ∷ []

abbrev pub told_with : Event → Option grammar.Call → List Result
told_with (events.Told c block) call = told_call call c block
told_with event call = []

-- ---- what it does at an event of a schedule

-- it is ready, and is asked a call that the command carries
pub record PlaysAsk (u : Setup) (command : Call) (p last : Player) : Type 0 where
  pub ready : IsReady p.core.state
  pub call : grammar.Call
  pub is : IsCall u command call
  pub plays : last ≡ record { core = record p.core { state = asked p.core.state call }; call = Some call; told = p.told }

-- a reply is taken
pub record PlaysTake (fed : states.Client) (p last : Player) : Type 0 where
  pub new : states.Client
  pub out : List ℕ
  pub out_after : List ℕ
  pub event : Event
  pub next : TakesNext fed out event new out_after
  pub reply : next.frame.reply ≡ true
  pub plays : last ≡ record { core = new; call = waits_behind event p.call; told = p.told ++ told_with event p.call }

-- or none is, for no frame is whole yet or the client is lost
pub record PlaysHold (fed : states.Client) (p last : Player) : Type 0 where
  pub why : (is_lost fed.state.stage ≡ true) ⊎ IsUnfinished fed.held.rest
  pub plays : last ≡ record p { core = fed }

-- it is fed so many bytes, and asked for the next event
pub record PlaysFeed (x : Line World) (n : ℕ) (p last : Player) : Type 0 where
  pub fed : states.Client
  pub feeds : IsFed x n p.core fed
  pub bytes : IsBytes fed.held.rest
  pub comes : PlaysTake fed p last ⊎ PlaysHold fed p last

abbrev pub Plays : Setup → Line World → ByteEvent → Player → Player → Type 0
Plays u x (Commands command) p last = PlaysAsk u command p last
Plays u x (ToServer i n moment wish) p last = last ≡ p
Plays u x (ToClient n) p last = PlaysFeed x n p last
Plays u x (Quiet i moment wish) p last = last ≡ p
Plays u x (Loses i moment wish) p last = last ≡ p
Plays u x (Drains i moment wish) p last = last ≡ p
Plays u x (Ends i) p last = last ≡ p
Plays u x Breaks p last = last ≡ record p { core = on_link (begun p.core.state) }
Plays u x (Others e) p last = last ≡ p

abbrev pub AllPlays : Setup → Line World → List ByteEvent → Player → Player → Type 0
AllPlays u x [] p last = last ≡ p
AllPlays u x (e ∷ es) p last = (mid : Player) × Plays u x e p mid × AllPlays u (line_step (dsi u) (machine u) x e) es mid last

-- it has begun its first link
abbrev pub player_of : logins.Login → Player
player_of login = record { core = on_link (begun (made_client login)); call = None; told = [] }

-- ---- the law

-- at most the call that waits
abbrev pub AreOutstanding : Setup → List Done → Option grammar.Call → Type 0
AreOutstanding u [] call = Unit {0}
AreOutstanding u (d ∷ []) None = ⊥
AreOutstanding u (d ∷ []) (Some call) = IsCall u d.call call
AreOutstanding u (d ∷ e ∷ ds) call = ⊥

-- The calls in effect on the session are those that the client was told of, less those that it was told MiscErr or NoMemory, each once, in order, and each told
-- what the client was told; behind them at most the call that waits.
pub record PlaysOnce (u : Setup) (n : ℕ) (w : World) (history : List Entry) (p : Player) : Type 0 where
  pub done : List Done
  pub more : List Done
  pub results : AreResults u done p.told
  pub effects : effective (machine u) n w history ≡ kept done ++ more
  pub at_most : AreOutstanding u more p.call

abbrev pub ClientsCommandsOnce : Type 0
ClientsCommandsOnce =
    (u : Setup) (w : World) (n : ℕ) (login : logins.Login) (events : List ByteEvent) (p : Player)
    → LogsIn u login
    → IsSoundUnder u.key w
    → n < numbers_end
    → AllLineAllowed (dsi u) (machine u) n (line_start (dsi u) w) events
    → AllPlays u (line_start (dsi u) w) events (player_of login) p
    → p.core.state.token ≡ Some (session_token u.key n)
    → PlaysOnce u n w (line_run (dsi u) (machine u) (line_start (dsi u) w) events).history p
