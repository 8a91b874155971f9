-- What the code and the proofs go by beside Asks; no public contract cites it.
use Rattle.std.specs.Prelude.{◌≡◌, ℕ, false, List, Result, Ok, Err}
use Rattle.afp_base.specs.Cached.{Request}
use Rattle.afp_base.specs.declared.bytes.OutOfMemory.{OutOfMemory}
use Rattle.afp_core_state.specs.KeptWorld.{KeptWorld}
use Rattle.afp_core_state.specs.Running.{IsOutcomeOf, done}
use Rattle.afp_serial.specs.Answer.{after_call, committed_in, told_call}
use Rattle.afp_serial.specs.Answered.{told_of}
use Rattle.afp_serial.specs.World.{session_at}
use Rattle.afp_serial.specs.declared.answered.Answered.{Answered}
use Rattle.afp_serial.specs.declared.ask.Ask.TheVariants as ask
use Rattle.afp_serial.specs.declared.ask.Outcome.{Outcome}
use Rattle.afp_serial.specs.declared.ask.Told.{Told}
use Rattle.afp_core_dispatch.specs.Asks.{RunsAsk, stands_for}

-- an Open, which is told no bytes
abbrev pub RunsOpen : KeptWorld → Result Answered OutOfMemory → KeptWorld → Type 0
RunsOpen k (Ok answered) new = (link attention : ℕ) (out : List ℕ) → RunsAsk k link (ask.Open attention) (Ok (done (told_of answered out))) new
RunsOpen k (Err e) new = new ≡ k

-- In both of these the world's latest moment is already the ask's.

-- a call on a link comes to its steps; or there is no memory, where what it is told does not stand already, and nothing changes
abbrev pub RunsCall : KeptWorld → ℕ → Request → Result (Told × Outcome) OutOfMemory → KeptWorld → Type 0
RunsCall k link q (Ok r) new =
    IsOutcomeOf (told_call k.world (session_at k.world link) q r.1) (after_call k.world (session_at k.world link) q r.1)
    (committed_in k.world (session_at k.world link) q) r.1 r.0 k new
RunsCall k link q (Err e) new = (stands_for (session_at k.world link) q ≡ false) × (new ≡ k)
