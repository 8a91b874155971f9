-- The client on the law's links of bytes: each call of it is an event of the law's schedules.
use Rattle.std.specs.Prelude.{◌≡◌, ◌⊎◌, ℕ, true, List, [], ◌++◌, Some, take, drop}
use Rattle.afp_base.specs.Bytes.{IsBytes}
use Rattle.dsi_frame.specs.Frame.{canonical_frame}
use Rattle.dsi_frame.specs.Stream.{IsUnfinished}
use Rattle.dsi_session.specs.RequestIds.{first_request_id}
use Rattle.afp_calls_grammar.specs.declared.grammar.call.Call as grammar
use Rattle.afp_serial.specs.World.{World}
use Rattle.afp_client.specs.session.Happens.{TakesNext}
use Rattle.afp_client.specs.session.Opening.{open_session_frame}
use Rattle.afp_client.specs.session.State as states
use Rattle.afp_client.specs.session.State.{ClientState, IsReady, call_frame, is_lost}
use Rattle.afp_client.specs.session.Takes.{asked, begun}
use Rattle.afp_client.specs.declared.session.event.Event.{Event}
use Rattle.afp_client.specs.declared.session.login.Login as logins
use Rattle.once_across_breaks.specs.once.Messages.{Call}
use Rattle.once_across_breaks.specs.once.Bytes.{Breaks, Commands, Line, ToClient, line_start, line_step}
use Rattle.once_across_breaks.specs.once.Dsi.{dsi}
use Rattle.once_across_breaks.specs.once.Serial.{Setup, machine}
use Rattle.once_across_breaks_code.specs.client.Requests.{IsCall, LogsIn}
use Rattle.once_across_breaks_code.specs.client.Related.{IsClient, made_client}
use Rattle.once_across_breaks_code.specs.client.OverBytes.{HasFewIds}
use Rattle.once_across_breaks_code.specs.client.Steps.{call_of, results_with, waits_behind}

-- the client is the law's, and holds the bytes of the newest link that the law's client holds
pub record IsOnLine (u : Setup) (x : Line World) (k : states.Client) : Type 0 where
  pub client : IsClient u x.client k.state
  pub few : HasFewIds x.client
  pub held : k.held.rest ≡ x.taken

-- on a link that it has begun
abbrev pub on_link : ClientState → states.Client
on_link s = record { state = s; held = record { place = 0; rest = [] } }

-- It begins its first link at the start, and the next one where the law's client breaks: OpenSession is on its way there.
abbrev pub LinesStart : Type 0
LinesStart = (u : Setup) (w : World) (login : logins.Login) → LogsIn u login → IsOnLine u (line_start (dsi u) w) (on_link (begun (made_client login)))

pub record IsBegun (u : Setup) (x after : Line World) (s : ClientState) : Type 0 where
  pub on : IsOnLine u after (on_link (begun s))
  pub wrote : after.up after.top ≡ canonical_frame (open_session_frame first_request_id)

abbrev pub LinesBreak : Type 0
LinesBreak = (u : Setup) (x : Line World) (s : ClientState) → IsClient u x.client s → IsBegun u x (line_step (dsi u) (machine u) x Breaks) s

-- it is asked a call, whose bytes come behind those under way
pub record IsCommanded (u : Setup) (x after : Line World) (k : states.Client) (command : Call) (call : grammar.Call) : Type 0 where
  pub on : IsOnLine u after (record k { state = asked k.state call })
  pub wrote : after.up x.top ≡ x.up x.top ++ canonical_frame (call_frame k.state.next_id call)
  pub results : after.client.results ≡ x.client.results
  pub waits : call_of after.client.wait ≡ Some command

abbrev pub LinesAsk : Type 0
LinesAsk =
    (u : Setup) (x : Line World) (k : states.Client) (command : Call) (call : grammar.Call)
    → IsOnLine u x k
    → IsReady k.state
    → IsCall u command call
    → IsCommanded u x (line_step (dsi u) (machine u) x (Commands command)) k command call

-- it is fed so many of the bytes under way
pub record IsFed (x : Line World) (n : ℕ) (k fed : states.Client) : Type 0 where
  pub state : fed.state ≡ k.state
  pub rest : fed.held.rest ≡ k.held.rest ++ take n (x.down x.top)

-- then a reply is taken: what the client writes comes behind what is under way, and it tells the results that the law's client has more
pub record IsTold (u : Setup) (x after : Line World) (n : ℕ) (out : List ℕ) (event : Event) (new : states.Client) (out_after : List ℕ) : Type 0 where
  pub on : IsOnLine u after new
  pub writes : List ℕ
  pub wrote : out_after ≡ out ++ writes
  pub up : after.up x.top ≡ x.up x.top ++ writes
  pub down : after.down x.top ≡ drop n (x.down x.top)
  pub results : after.client.results ≡ x.client.results ++ results_with event x.client.wait
  pub waits : call_of after.client.wait ≡ waits_behind event (call_of x.client.wait)

abbrev pub LinesTake : Type 0
LinesTake =
    (u : Setup) (x : Line World) (n : ℕ) (k fed new : states.Client) (out out_after : List ℕ) (event : Event)
    → IsOnLine u x k
    → IsFed x n k fed
    → IsBytes fed.held.rest
    → (next : TakesNext fed out event new out_after)
    → next.frame.reply ≡ true
    → IsTold u x (line_step (dsi u) (machine u) x (ToClient n)) n out event new out_after

-- or no frame is whole yet, or the client is lost: nothing but those bytes has moved
pub record IsHeld (u : Setup) (x after : Line World) (n : ℕ) (fed : states.Client) : Type 0 where
  pub on : IsOnLine u after fed
  pub same : after.client ≡ x.client
  pub up : after.up ≡ x.up
  pub down : after.down x.top ≡ drop n (x.down x.top)

abbrev pub LinesHold : Type 0
LinesHold =
    (u : Setup) (x : Line World) (n : ℕ) (k fed : states.Client)
    → IsOnLine u x k
    → IsFed x n k fed
    → IsBytes fed.held.rest
    → (is_lost fed.state.stage ≡ true) ⊎ IsUnfinished fed.held.rest
    → IsHeld u x (line_step (dsi u) (machine u) x (ToClient n)) n fed
