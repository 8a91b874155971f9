-- What the parts of a replay hold, and where a capture stands by them (this profile).
use Rattle.std.specs.Prelude.{◌≡◌, ◌≢◌, ℕ, ◌+◌, ◌≤◌, Bool, false, List, [], suc, length, drop, Option, Some, None, slice_get}
use Rattle.afp_base.specs.Counts.{counted}
use Rattle.afp_serial.specs.Shown.{Shown}
use Rattle.afp_serial.specs.Household.{Household}
use Rattle.afp_serial.specs.StatusBlock.{status_block}
use Rattle.afp_serial.specs.World.{fresh_world}
use Rattle.dsi_frame.specs.Deframe.{GivenOut}
use Rattle.afp_server.specs.link.Wire.{WireState, open_link}
use Rattle.afp_server.specs.declared.link.stage.Stage.TheVariants.{Fresh, Closing}
use Rattle.capture_log_server.specs.Connections.{Connection, output}
use Rattle.capture_log_server.specs.Counting.{refused_in}
use Rattle.capture_log_lines.specs.log.Lines.{last_link}
use Rattle.capture_log_server.specs.CaptureState.{CaptureState}

-- A connection: the wire that its bytes are fed to, and a bound of how many those were; whether it was used, takes no more bytes and was
-- lost; its output, but perhaps some first part that was compared, the place in that from which on it was not, and how many bytes of all
-- were.
pub record ConnectionState : Type 0 where
  pub wire : Option WireState
  pub fed : ℕ
  pub used : Bool
  pub over : Bool
  pub lost : Bool
  pub out : List ℕ
  pub place : ℕ
  pub named : ℕ

-- one that no line has named
abbrev pub unused_state : ConnectionState
unused_state = record { wire = None; fed = 0; used = false; over = false; lost = false; out = []; place = 0; named = 0 }

-- nothing was fed
pub record IsUnfed (s : Connection) : Type 0 where
  pub stage : s.stage ≡ Fresh
  pub fed : s.fed ≡ []
  pub past : s.past ≡ []

-- the wire takes more bytes
pub record IsLive (w : WireState) (fed : ℕ) (s : Connection) : Type 0 where
  pub goes_on : w.end ≡ None
  pub live : w.stage ≢ Closing
  pub given : GivenOut s.fed s.past w.held
  pub most : w.held.place + length w.held.rest ≤ fed

-- The wire of a connection, on a server with this status block: before it is made, and behind its end where no link is open, there is none.
pub record HoldsWire (block : List ℕ) (w : WireState) (fed : ℕ) (s : Connection) : Type 0 where
  pub serves : w.block ≡ block
  pub stage : w.stage ≡ s.stage
  pub live : s.over ≡ false → IsLive w fed s

pub record HoldsNone (s : Connection) : Type 0 where
  pub closed : open_link s.stage ≡ None
  pub unfed : s.over ≡ false → s.lost ≡ false → IsUnfed s

abbrev pub IsWire : List ℕ → Option WireState → ℕ → Connection → Type 0
IsWire block None fed s = HoldsNone s
IsWire block (Some w) fed s = HoldsWire block w fed s

-- what is held is this connection
pub record IsConnection (block : List ℕ) (c : ConnectionState) (s : Connection) : Type 0 where
  pub used : c.used ≡ s.used
  pub over : c.over ≡ s.over
  pub lost : c.lost ≡ s.lost
  pub named : c.named ≡ s.named
  pub within : s.named ≤ length (output s)
  pub inside : c.place ≤ length c.out
  pub rest : drop c.place c.out ≡ drop s.named (output s)
  pub wire : IsWire block c.wire c.fed s

-- A server that is replayed on: its house, the teller, the connections by their places, how many of them were fed, and how many replies
-- there were, and refusals among them.
pub record RunningState : Type 0 where
  pub house : Household
  pub teller : Shown
  pub connections : List ConnectionState
  pub links : ℕ
  pub replies : ℕ
  pub refused : ℕ

-- The teller's history began with this house at a moment, and is the capture's.
pub record IsTeller (t : Shown) (s : CaptureState) (first : ℕ) : Type 0 where
  pub start : t.start ≡ fresh_world s.house first
  pub history : t.history ≡ s.history

-- what is held is where the capture stands, which begins at this moment
pub record IsRunning (r : RunningState) (s : CaptureState) (first : ℕ) : Type 0 where
  pub house : r.house ≡ s.house
  pub teller : IsTeller r.teller s first
  pub links : r.links ≡ s.links
  pub replies : r.replies ≡ counted (length s.replies) 0
  pub refused : r.refused ≡ counted (refused_in s.replies) 0
  pub size : length r.connections ≡ last_link
  pub connections : (k : ℕ) (c : ConnectionState) → slice_get r.connections k ≡ Some c → IsConnection (status_block s.house) c (s.connections (suc k))
