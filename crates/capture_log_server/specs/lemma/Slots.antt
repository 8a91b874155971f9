-- What the calls on a connection at a place do (this profile).
use Rattle.std.specs.Prelude.{◌≡◌, ℕ, false, List, Option, Some, slice_get, slice_set}
use Rattle.afp_serial.specs.Shown.{Shown}
use Rattle.afp_server.specs.link.Wire.{open_link}
use Rattle.afp_server.specs.declared.link.tally.Tally.{Tally}
use Rattle.capture_log_server.specs.Connections.{Connection}
use Rattle.capture_log_server.specs.lemma.Moves.{FeedsConnection, IdlesConnection, LosesConnection, Compares}
use Rattle.capture_log_server.specs.States.{ConnectionState, IsConnection}
use Rattle.capture_log_server.specs.declared.difference.Difference.{Difference}

-- bytes may be fed to it
pub record IsFit (block : List ℕ) (c : ConnectionState) : Type 0 where
  pub state : Connection
  pub is : IsConnection block c state
  pub takes : c.over ≡ false
  pub there : c.lost ≡ false

pub record FeedsAt (block : List ℕ) (now : ℕ) (piece : List ℕ) (slots : List ConnectionState) (index : ℕ) (t : Shown) (tally : Tally) (new : List ConnectionState) (u : Shown) : Type 0 where
  pub old : ConnectionState
  pub then_is : ConnectionState
  pub there : slice_get slots index ≡ Some old
  pub set : new ≡ slice_set slots index then_is
  pub feeds : (s : Connection) → IsConnection block old s → FeedsConnection block now piece s t tally then_is u

pub record IdlesAt (now : ℕ) (slots : List ConnectionState) (index : ℕ) (t : Shown) (new : List ConnectionState) (u : Shown) : Type 0 where
  pub old : ConnectionState
  pub then_is : ConnectionState
  pub there : slice_get slots index ≡ Some old
  pub set : new ≡ slice_set slots index then_is
  pub idles : (block : List ℕ) (s : Connection) → IsConnection block old s → IdlesConnection (open_link s.stage) block now s t then_is u

pub record LosesAt (now : ℕ) (slots : List ConnectionState) (index : ℕ) (t : Shown) (new : List ConnectionState) (u : Shown) : Type 0 where
  pub old : ConnectionState
  pub then_is : ConnectionState
  pub there : slice_get slots index ≡ Some old
  pub set : new ≡ slice_set slots index then_is
  pub loses : (block : List ℕ) (s : Connection) → IsConnection block old s → LosesConnection (open_link s.stage) block now s t then_is u

pub record ComparesAt (wanted : List ℕ) (slots : List ConnectionState) (index : ℕ) (found : Option Difference) (new : List ConnectionState) : Type 0 where
  pub old : ConnectionState
  pub then_is : ConnectionState
  pub there : slice_get slots index ≡ Some old
  pub set : new ≡ slice_set slots index then_is
  pub compares : (block : List ℕ) (s : Connection) → IsConnection block old s → Compares block wanted s found then_is
