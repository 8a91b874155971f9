-- What the code goes by where files exchange their forks; no public contract cites it.
use Rattle.std.specs.Prelude.{◌≡◌, ℕ, [], Some, Result, Ok, Err}
use Rattle.afp_base.specs.declared.bytes.OutOfMemory.{OutOfMemory}
use Rattle.afp_core_state.specs.KeptWorld.{KeptWorld}
use Rattle.afp_core_state.specs.Planned.{RunsCommit}
use Rattle.afp_serial.specs.ExchangeFiles.{opens_exchanged}
use Rattle.afp_serial.specs.declared.ask.Outcome.{Outcome}
use Rattle.afp_serial.specs.declared.ask.Outcome.TheVariants as outcome
use Rattle.afp_serial.specs.declared.ask.Told.{Told}
use Rattle.volume_edits.specs.edits.Planned.{PlanValue}
use Rattle.volume_spec.specs.ExchangeFiles.{Pair}

-- the open forks of two files of a volume changed places
abbrev pub with_exchanged : ℕ → Pair → KeptWorld → KeptWorld
with_exchanged volume pair k = record k { world = record k.world { opens = opens_exchanged volume (Some pair) k.world.opens } }

-- so they do behind a commit that went well
abbrev pub exchanged_where : Outcome → ℕ → Pair → KeptWorld → KeptWorld
exchanged_where outcome.Done volume pair k = with_exchanged volume pair k
exchanged_where outcome.Fault volume pair k = k

abbrev pub exchanged_behind : Result (Told × Outcome) OutOfMemory → ℕ → Pair → KeptWorld → KeptWorld
exchanged_behind (Ok r) volume pair k = exchanged_where r.1 volume pair k
exchanged_behind (Err e) volume pair k = k

-- a plan of an exchange that was committed, with what is told of that
pub record RunsExchange (k : KeptWorld) (index volume : ℕ) (pair : Pair) (plan : PlanValue) (result : Result (Told × Outcome) OutOfMemory) (new : KeptWorld) : Type 0 where
  pub between : KeptWorld
  pub runs : RunsCommit k index plan [] result between
  pub behind : new ≡ exchanged_behind result volume pair between
