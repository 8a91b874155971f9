-- One turn (this profile).
use Rattle.std.specs.Prelude.{◌≡◌, ℕ, true, [], ◌∷◌, count_by}
use Rattle.afp_base.specs.Counts.{counted}
use Rattle.afp_base.specs.declared.ids.LinkNumber.{LinkNumber}
use Rattle.afp_core_state.specs.KeeperFaults.{KeepersRise, SureStand, failed_keeper}
use Rattle.afp_core.specs.turns.ServerState.{ServerState}
use Rattle.afp_core_dispatch.specs.Asks.{LacksMemory}
use Rattle.afp_serial.specs.Answer.{answer, after, committed_of, is_legal}
use Rattle.afp_serial.specs.History.{entry, is_opened}
use Rattle.afp_serial.specs.declared.ask.Ask.{Ask}
use Rattle.afp_serial.specs.declared.ask.Entry.{Entry}
use Rattle.afp_serial.specs.declared.ask.Outcome.{Outcome}
use Rattle.afp_serial.specs.declared.ask.Told.{Told}
use Rattle.afp_serial.specs.declared.ask.Told.TheVariants.{Opened, Reply, Live, Done, Displaced, Memory}

-- An entry that is legal, with its serial answer, and the world after it. The counts go on; a fault is one that the keeper of the row's
-- volume counted, and no other keeper's count changes.
pub record Turned (c : ServerState) (e : Entry) (answered : Told) (d : ServerState) : Type 0 where
  pub legal : is_legal c.world e ≡ true
  pub serial : answered ≡ answer c.world e
  pub world : d.world ≡ after c.world e
  pub entries : d.entries ≡ counted 1 c.entries
  pub opened : d.opened ≡ counted (count_by is_opened (answered ∷ [])) c.opened
  pub keepers : KeepersRise (failed_keeper (committed_of c.world e) e.outcome) c.faults d.faults
  pub sure : d.sure ≡ c.sure
  pub stand : SureStand c.sure c.faults d.faults

-- There is no memory: the ask is no entry, and nothing changes.
pub record Refrains (c : ServerState) (link : LinkNumber) (ask : Ask) (d : ServerState) : Type 0 where
  pub lacks : LacksMemory c.world link.0 ask
  pub same : d ≡ c

abbrev pub BecomesEntry : ServerState → ℕ → LinkNumber → Ask → Told → ServerState → Type 0
BecomesEntry c now link ask told d = (o : Outcome) × Turned c (entry now link ask o) told d

-- One turn, by what it is told.
abbrev pub TakesTurn : ServerState → ℕ → LinkNumber → Ask → Told → ServerState → Type 0
TakesTurn c now link ask (Opened l) d = BecomesEntry c now link ask (Opened l) d
TakesTurn c now link ask (Reply code block ends) d = BecomesEntry c now link ask (Reply code block ends) d
TakesTurn c now link ask (Live drain) d = BecomesEntry c now link ask (Live drain) d
TakesTurn c now link ask Done d = BecomesEntry c now link ask Done d
TakesTurn c now link ask Displaced d = BecomesEntry c now link ask Displaced d
TakesTurn c now link ask Memory d = Refrains c link ask d
