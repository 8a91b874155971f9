-- What a keeper over database files tells of them, and what it finds in them as they are opened.
use Rattle.std.specs.Prelude.{◌≡◌, Option, IsTrue}
use Rattle.sqlite_disk.specs.declared.Disk.{Ghosts}
use Rattle.sqlite_trees.specs.Tree.{Trees}
use Rattle.sqlite_store.specs.declared.store.FileStore.{FileStore}
use Rattle.sqlite_wal.specs.Recovery.{Image}
use Rattle.sqlite.specs.Effect.{Database, IsDatabase}
use Rattle.sqlite.specs.Files.{AreFoundIn, HoldsDatabase, file_state}
use Rattle.sqlite.specs.Held.{Held}
use Rattle.sqlite.specs.State.{State}
use Rattle.record_keeper.specs.Records.{Records}
use Rattle.sqlite_durable.specs.Durable.{IsFoundIn, while_open}
use Rattle.sqlite_durable.specs.Kept.{records_of}
use Rattle.sqlite_durable.specs.Turned.{records_in}

module _ {D : Type 0} {g : Ghosts D} where
  -- the records in the files, while they are open
  abbrev pub file_told : Held (FileStore D g) → Option Records
  file_told c = while_open (file_state c).is_open (records_in (file_state c).now)

  -- a stop at this moment may leave these records
  abbrev pub file_leaves : Held (FileStore D g) → Records → Type 0
  file_leaves c r = (db : Trees) × (file_state c).may_leave db × (r ≡ records_of (db 0))

-- The files were opened, and held a database, or nothing, which is opened as an empty one. The records are its own, or none where it had no table.
pub record HasFound (image : Image) (s : State) : Type 0 where
  pub is_open : IsTrue s.is_open
  pub opened : Database
  pub sound : IsDatabase opened
  pub holds : (db : Trees) → HoldsDatabase image db → opened.trees ≡ db
  pub reads : AreFoundIn image opened.trees
  pub found : IsFoundIn opened s.now
