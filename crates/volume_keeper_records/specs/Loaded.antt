-- What becomes of the records of a keeper (this profile).
use Rattle.std.specs.Prelude.{◌≡◌, ℕ, List, Some, None}
use Rattle.volume_spec.specs.VolumeState.{VolumeState}
use Rattle.record_keeper.specs.declared.record.Record.{Record}
use Rattle.volume_keeper_records.specs.declared.rows.TableRow.{TableRow}
use Rattle.volume_keeper_records.specs.declared.load.Loaded.{Loaded}
use Rattle.volume_keeper_records.specs.declared.load.Loaded.TheVariants as loaded
use Rattle.volume_keeper_records.specs.Image.{rows_of, tables_of}
use Rattle.volume_keeper_records.specs.FirstBad.{version_in, first_bad_record}
use Rattle.volume_keeper_records.specs.Laws.{HasRecords}

-- a volume that has just these records, and the rows that say it
pub record IsVolumeOf (name : List ℕ) (records : List Record) (rows : List TableRow) (v : VolumeState) : Type 0 where
  pub has_records : HasRecords name records v
  pub has_rows : rows ≡ rows_of (tables_of (version_in records) v)

-- the first bad record; or, where none is bad, the rows of the volume whose records they are
abbrev pub IsLoadedRows : List ℕ → List Record → Loaded → Type 0
IsLoadedRows name records (loaded.Bad bad) = first_bad_record name records ≡ Some bad
IsLoadedRows name records (loaded.Good rows) = (first_bad_record name records ≡ None) × (v : VolumeState) × IsVolumeOf name records rows.items v
