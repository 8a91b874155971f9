-- What became of the keepers since a start (this profile).
use Rattle.std.specs.Prelude.{◌≡◌, ◌<◌, ℕ, true, List, length, Some, slice_get}
use Rattle.afp_core.specs.turns.ServerState.{ServerState}
use Rattle.afp_serial.specs.History.{faults_in}
use Rattle.afp_serial.specs.declared.ask.Entry.{Entry}

-- A keeper stays as sure as it was, and the count of a sure one stands where it began.
pub record SureKept (start c : ServerState) : Type 0 where
  pub many : length c.faults ≡ length start.faults
  pub sure : c.sure ≡ start.sure
  pub stand : (index : ℕ) → slice_get start.sure index ≡ Some true → slice_get c.faults index ≡ slice_get start.faults index

-- Each keeper is sure.
abbrev pub AreSure : ServerState → Type 0
AreSure s = (index : ℕ) → index < length s.faults → slice_get s.sure index ≡ Some true

-- Where each keeper was sure at the start, no entry since then met a fault.
abbrev pub MeetsNoFaults : ServerState → List Entry → Type 0
MeetsNoFaults start history = AreSure start → faults_in history ≡ 0
