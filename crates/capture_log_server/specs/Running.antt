-- What the calls on a server that is replayed on do (this profile).
use Rattle.std.specs.Prelude.{◌≡◌, ℕ, List, [], length, drop, slice_get, Option, Some, None}
use Rattle.afp_serial.specs.Household.{Household}
use Rattle.afp_serial.specs.World.{fresh_world}
use Rattle.capture_log_lines.specs.declared.log.line.What.{What}
use Rattle.capture_log_lines.specs.declared.log.line.What.TheVariants.{Out}
use Rattle.capture_log_server.specs.Connections.{difference, output}
use Rattle.capture_log_lines.specs.log.Lines.{last_link}
use Rattle.capture_log_server.specs.CaptureState.{CaptureState, Happens}
use Rattle.capture_log_server.specs.States.{ConnectionState, RunningState, IsRunning, unused_state}
use Rattle.capture_log_server.specs.declared.difference.Difference.{Difference}

-- none of them was named
abbrev pub AreUnused : List ConnectionState → Type 0
AreUnused connections = (k : ℕ) (c : ConnectionState) → slice_get connections k ≡ Some c → c ≡ unused_state

-- a server of this house that nobody has asked, from a moment on
pub record IsFreshRunning (house : Household) (now : ℕ) (r : RunningState) : Type 0 where
  pub serves : r.house ≡ house
  pub start : r.teller.start ≡ fresh_world house now
  pub history : r.teller.history ≡ []
  pub size : length r.connections ≡ last_link
  pub connections : AreUnused r.connections
  pub links : r.links ≡ 0
  pub replies : r.replies ≡ 0
  pub refused : r.refused ≡ 0

-- Something happened, and the capture stands somewhere else.
pub record Happened (s : CaptureState) (link now : ℕ) (what : What) (first : ℕ) (r : RunningState) : Type 0 where
  pub after : CaptureState
  pub happens : Happens s link now what after
  pub is : IsRunning r after first
  pub start : after.start ≡ s.start

-- Bytes were compared, and one differs.
pub record Differed (s : CaptureState) (link : ℕ) (what : What) (d : Difference) : Type 0 where
  pub bytes : List ℕ
  pub shows : what ≡ Out bytes
  pub found : difference (s.connections link).named bytes (drop (s.connections link).named (output (s.connections link))) ≡ Some d

abbrev pub HappensBy : CaptureState → ℕ → ℕ → What → ℕ → Option Difference → RunningState → Type 0
HappensBy s link now what first None r = Happened s link now what first r
HappensBy s link now what first (Some d) r = Differed s link what d
