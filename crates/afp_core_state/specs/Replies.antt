-- What calls are told of what a volume or its keeper answered (this profile).
use Rattle.std.specs.Prelude.{◌≡◌, ℕ, false, List, [], Result, Ok, Err}
use Rattle.afp_base.specs.declared.bytes.OutOfMemory.{OutOfMemory}
use Rattle.afp_base.specs.declared.code.Code.TheVariants as code
use Rattle.afp_core_state.specs.Running.{done}
use Rattle.afp_serial.specs.Answer.{refusal_reply}
use Rattle.afp_serial.specs.declared.ask.Outcome.{Outcome}
use Rattle.afp_serial.specs.declared.ask.Outcome.TheVariants as outcome
use Rattle.afp_serial.specs.declared.ask.Told.{Told}
use Rattle.afp_serial.specs.declared.ask.Told.TheVariants.{Reply}
use Rattle.record_keeper.specs.declared.keeper.KeeperFault.{KeeperFault}
use Rattle.record_keeper.specs.declared.keeper.KeeperFault.TheVariants as keeper
use Rattle.volume_tree.specs.declared.resolve.PlanFault.{PlanFault}
use Rattle.volume_tree.specs.declared.resolve.PlanFault.TheVariants as fault

-- what is told of bytes that were read of a volume, or of why they were not
abbrev pub Tells : Result (Unit {0}) PlanFault → List ℕ → Result (Told × Outcome) OutOfMemory → Type 0
Tells (Ok read) block (Ok r) = r ≡ done (Reply code.Ok block false)
Tells (Ok read) block (Err e) = ⊥
Tells (Err (fault.Code code)) block (Ok r) = r ≡ done (refusal_reply code)
Tells (Err (fault.Code code)) block (Err e) = ⊥
Tells (Err fault.Memory) block (Ok r) = ⊥
Tells (Err fault.Memory) block (Err e) = Unit {0}

-- what is told of a keeper that settled, or did not
abbrev pub TellsSettled : Result (Unit {0}) KeeperFault → Result (Told × Outcome) OutOfMemory → Type 0
TellsSettled (Ok settled) (Ok r) = r ≡ done (Reply code.Ok [] false)
TellsSettled (Ok settled) (Err e) = ⊥
TellsSettled (Err keeper.Failed) (Ok r) = r ≡ (refusal_reply code.MiscErr, outcome.Fault)
TellsSettled (Err keeper.Failed) (Err e) = ⊥
TellsSettled (Err keeper.Memory) (Ok r) = ⊥
TellsSettled (Err keeper.Memory) (Err e) = Unit {0}
