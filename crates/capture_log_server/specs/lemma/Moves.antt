-- What the calls on a connection do (this profile).
use Rattle.std.specs.Prelude.{◌≡◌, ℕ, ◌+◌, Bool, List, [], ◌∷◌, length, drop, Option, Some, None}
use Rattle.afp_base.specs.declared.ids.LinkNumber.{LinkNumber}
use Rattle.afp_serial.specs.Shown.{Shown}
use Rattle.afp_serial.specs.Went.{Step, step}
use Rattle.afp_serial.specs.declared.ask.Ask.TheVariants as asks
use Rattle.afp_serial.specs.declared.ask.Told.{Told}
use Rattle.dsi_frame.specs.Frame.{Frame}
use Rattle.afp_server.specs.link.Tally.{no_tally, tallied}
use Rattle.afp_server.specs.link.Wire.{WireState}
use Rattle.afp_server.specs.declared.link.stage.Stage.{Stage}
use Rattle.afp_server.specs.declared.link.stage.Stage.TheVariants.{Fresh}
use Rattle.afp_server.specs.declared.link.tally.Tally.{Tally}
use Rattle.capture_log_server.specs.Connections.{Connection, Extends, TakesBytes, fed_with, difference, output}
use Rattle.capture_log_server.specs.declared.difference.Difference.{Difference}
use Rattle.capture_log_server.specs.CaptureState.{after_quiet, after_loss}
use Rattle.capture_log_server.specs.States.{ConnectionState, IsConnection}

-- a wire at its first byte
abbrev pub fresh_wire : List ℕ → WireState
fresh_wire block = record { block = block; held = record { place = 0; rest = [] }; stage = Fresh; tally = no_tally; end = None }

-- the wire that is there, or a new one
abbrev pub wire_or : List ℕ → Option WireState → WireState
wire_or block None = fresh_wire block
wire_or block (Some w) = w

-- Bytes were fed to a connection.
pub record FeedsConnection (block : List ℕ) (now : ℕ) (piece : List ℕ) (s : Connection) (t : Shown) (tally : Tally) (c : ConnectionState) (u : Shown) : Type 0 where
  pub frames : List Frame
  pub steps : List Step
  pub replies : List Frame
  pub after : Stage
  pub over : Bool
  pub takes : TakesBytes block now s piece frames steps replies after over
  pub extends : Extends t steps u
  pub tally_is : tally ≡ tallied no_tally steps replies
  pub is : IsConnection block c (fed_with s piece frames replies after over)

-- No byte was read for a while.
abbrev pub IdlesConnection : Option LinkNumber → List ℕ → ℕ → Connection → Shown → ConnectionState → Shown → Type 0
IdlesConnection None block now s t c u = (u ≡ t) × IsConnection block c s
IdlesConnection (Some link) block now s t c u = (answer : Told) × Extends t (step now link asks.Pulse answer ∷ []) u × IsConnection block c (after_quiet answer s)

-- The connection was lost.
abbrev pub LosesConnection : Option LinkNumber → List ℕ → ℕ → Connection → Shown → ConnectionState → Shown → Type 0
LosesConnection None block now s t c u = (u ≡ t) × IsConnection block c (after_loss s)
LosesConnection (Some link) block now s t c u = (answer : Told) × Extends t (step now link asks.Lost answer ∷ []) u × IsConnection block c (after_loss s)

-- Bytes were compared: they were those that come next, or one differs.
abbrev pub Compares : List ℕ → List ℕ → Connection → Option Difference → ConnectionState → Type 0
Compares block wanted s None c =
    (difference s.named wanted (drop s.named (output s)) ≡ None) × IsConnection block c (record s { named = s.named + length wanted })
Compares block wanted s (Some d) c = difference s.named wanted (drop s.named (output s)) ≡ Some d
