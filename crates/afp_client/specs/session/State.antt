-- The state of a client (this profile).
use Rattle.std.specs.Prelude.{◌≡◌, ℕ, Bool, true, false, List, ◌++◌, length, Option, Some, None}
use Rattle.dsi_frame.specs.Buffered.{Buffered}
use Rattle.dsi_frame.specs.Frame.{Frame}
use Rattle.dsi_frame.specs.declared.frame.DsiCommand.TheVariants as commands
use Rattle.afp_calls_grammar.specs.grammar.Call.{canonical_call, canonical_data}
use Rattle.afp_calls_grammar.specs.declared.grammar.call.Call.{Call}
use Rattle.afp_calls_grammar.specs.declared.grammar.call.Call.TheVariants.{Login as LoginCall, LoginExt, GetSessionToken, DisconnectOldSession}
use Rattle.afp_client.specs.session.Opening.{command_frame}
use Rattle.afp_client.specs.declared.session.login.Login.{Login}
use Rattle.afp_client.specs.declared.session.stage.Stage.{Stage}
use Rattle.afp_client.specs.declared.session.stage.Stage.TheVariants as stages

-- A request that waits for its reply, as it was written last; and how often it was written again because it was told that there was
-- no memory.
pub record Waiting : Type 0 where
  pub request : Frame
  pub retries : ℕ

-- How the client logs in; how far it has come on its link; the token of its session, once it has one; the request of a command that
-- waits, if one does; and the next id of its commands.
pub record ClientState : Type 0 where
  pub login : Login
  pub stage : Stage
  pub token : Option (List ℕ)
  pub waiting : Option Waiting
  pub next_id : ℕ

-- the same, with the bytes of its link that no event has taken, and the place of the first
pub record Client : Type 0 where
  pub state : ClientState
  pub held : Buffered

-- whether the opening is done, and whether it was refused
abbrev pub is_opened : Stage → Bool
is_opened stages.Ready = true
is_opened stages.Unlinked = false
is_opened (stages.Opening step id retries) = false
is_opened stages.Lost = false

abbrev pub is_lost : Stage → Bool
is_lost stages.Lost = true
is_lost stages.Unlinked = false
is_lost (stages.Opening step id retries) = false
is_lost stages.Ready = false

-- the client can be asked: its link is opened, and no request waits
pub record IsReady (s : ClientState) : Type 0 where
  pub opened : s.stage ≡ stages.Ready
  pub idle : s.waiting ≡ None

-- calls that belong to openings
abbrev pub is_of_opening : Call → Bool
is_of_opening (LoginCall version uam rest) = true
is_of_opening (LoginExt flags version uam name path_kind path rest) = true
is_of_opening (GetSessionToken kind stamp id) = true
is_of_opening (DisconnectOldSession kind token) = true
is_of_opening call = false

-- the frame of a call: one with data comes in a Write, and its word is the place of the data (AFP over TCP, "DSIWrite")
abbrev pub framed_call : ℕ → Call → Option (List ℕ) → Frame
framed_call id call None = command_frame id call
framed_call id call (Some bytes) =
    record { reply = false; command = commands.Write; id = id; word = length (canonical_call call); payload = canonical_call call ++ bytes }

abbrev pub call_frame : ℕ → Call → Frame
call_frame id call = framed_call id call (canonical_data call)
