-- What the code and the proofs go by beside Turn; no public contract cites it.
use Rattle.std.specs.Prelude.{ℕ, Result, Ok, Err}
use Rattle.afp_base.specs.declared.bytes.OutOfMemory.{OutOfMemory}
use Rattle.afp_base.specs.declared.ids.LinkNumber.{LinkNumber}
use Rattle.afp_core.specs.turns.ServerState.{ServerState}
use Rattle.afp_serial.specs.History.{entry}
use Rattle.afp_serial.specs.declared.ask.Ask.{Ask}
use Rattle.afp_serial.specs.declared.ask.Outcome.{Outcome}
use Rattle.afp_serial.specs.declared.ask.Told.{Told}
use Rattle.afp_core.specs.turns.Turn.{Turned, Refrains}

-- a turn with its outcome
abbrev pub TakesStep : ServerState → ℕ → LinkNumber → Ask → Result (Told × Outcome) OutOfMemory → ServerState → Type 0
TakesStep c now link ask (Ok r) d = Turned c (entry now link ask r.1) r.0 d
TakesStep c now link ask (Err e) d = Refrains c link ask d
