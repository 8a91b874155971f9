-- What changes make of a database that has the table.
use Rattle.std.specs.Prelude.{◌≡◌, ◌⊎◌, IsTrue}
use Rattle.sqlite_trees.specs.Tree.{Trees}
use Rattle.sqlite.specs.Effect.{Database, IsDatabase}
use Rattle.sqlite.specs.State.{State, HasCleanDisk}
use Rattle.sqlite_disk.specs.Disk.{MoreFaults}
use Rattle.record_keeper.specs.Records.{Records}
use Rattle.sqlite_durable.specs.Table.{records_schema}
use Rattle.sqlite_durable.specs.Kept.{records_of}

-- the records of a database
abbrev pub records_in : Database → Records
records_in db = records_of (db.trees 0)

-- the database has the table of the records and no other, and its rows obey that
abbrev pub HasTable : Database → Type 0
HasTable db = (db.schema ≡ records_schema) × IsDatabase db

-- it has the table, and these records
abbrev pub Holds : Database → Records → Type 0
Holds db kept = HasTable db × (records_in db ≡ kept)

-- the records before, changed so, are those of the database after
abbrev pub Turns : (Records → Records) → Database → Database → Type 0
Turns change old new = Holds new (change (records_in old))

-- a crash leaves what it could leave before, or the records after this change
abbrev pub LeavesOr : (Records → Records) → State → State → Type 0
LeavesOr change old new = HasCleanDisk new → (db : Trees) → new.may_leave db → old.may_leave db ⊎ (records_of (db 0) ≡ change (records_in old.now))

-- a crash leaves what it could leave before, or, where the database was open, the records after this change
abbrev pub LeavesOrTold : (Records → Records) → State → State → Type 0
LeavesOrTold change old new = HasCleanDisk new → (db : Trees) → new.may_leave db → old.may_leave db ⊎ (IsTrue old.is_open × (records_of (db 0) ≡ change (records_in old.now)))

-- a crash leaves what it could leave before
abbrev pub LeavesAsBefore : State → State → Type 0
LeavesAsBefore old new = HasCleanDisk new → (db : Trees) → new.may_leave db → old.may_leave db

-- where the disk is clean, only a fault of the store shuts the database
abbrev pub StaysOpen : State → State → Type 0
StaysOpen old new = HasCleanDisk new → IsTrue old.is_open → IsTrue new.is_open ⊎ MoreFaults old.faults new.faults
