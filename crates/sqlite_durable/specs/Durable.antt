-- A keeper over a database, and what it tells.
use Rattle.std.specs.Prelude.{◌≡◌, ◌⊎◌, ℕ, Bool, true, false, Option, Some, None, IsTrue}
use Rattle.std.specs.FinMap.{empty}
use Rattle.sqlite_trees.specs.Tree.{Trees}
use Rattle.sqlite_trees.specs.declared.store.Store.{Ghosts}
use Rattle.sqlite.specs.Effect.{Database}
use Rattle.sqlite.specs.Held.{Held, state}
use Rattle.record_keeper.specs.Records.{Records}
use Rattle.record_keeper.specs.Settling.{Answers}
use Rattle.sqlite_durable.specs.Table.{no_schema, records_schema}
use Rattle.sqlite_durable.specs.Kept.{records_of}
use Rattle.sqlite_durable.specs.Turned.{records_in, Holds, StaysOpen}

-- the database, how often a statement was refused, and what was answered to settles
pub record Durable (S : Type 0) : Type 0 where
  pub database : Held S
  pub faults : ℕ
  pub settles : Answers

-- these records, where the database is open
abbrev pub while_open : Bool → Records → Option Records
while_open true kept = Some kept
while_open false kept = None

-- the records of the database, as long as it is open: a fault of the disk shuts it, and it may do so unseen
abbrev pub told_of : {S : Type 0} → Ghosts S → Durable S → Option Records
told_of g k = while_open (state g k.database).is_open (records_in (state g k.database).now)

-- What is told of a database at the start: its own records, or none where it has no table.
abbrev pub IsFoundIn : Database → Database → Type 0
IsFoundIn before now = ((before.schema ≡ records_schema) × (now ≡ before)) ⊎ ((before.schema ≡ no_schema) × Holds now empty)

-- the database was open
abbrev pub IsOpen : {S : Type 0} → Ghosts S → Durable S → Type 0
IsOpen g k = IsTrue (state g k.database).is_open

-- where the disk is clean, a keeper whose database is open has it open still, or its store counted a fault
abbrev pub KeepsOpen : {S : Type 0} → Ghosts S → Durable S → Durable S → Type 0
KeepsOpen g old new = StaysOpen (state g old.database) (state g new.database)

-- so far the disk gave back what was written, and nobody else wrote there
abbrev pub lasts_of : {S : Type 0} → Ghosts S → Durable S → Bool
lasts_of g k = (state g k.database).is_clean

-- a stop at this moment may leave these records
abbrev pub leaves_of : {S : Type 0} → Ghosts S → Durable S → Records → Type 0
leaves_of g k r = (db : Trees) × (state g k.database).may_leave db × (r ≡ records_of (db 0))

-- a crash leaves the records that are told, and nothing else
abbrev pub LeavesTold : {S : Type 0} → Ghosts S → Durable S → Type 0
LeavesTold g k = IsOpen g k → (db : Trees) → (state g k.database).may_leave db → records_of (db 0) ≡ records_in (state g k.database).now
