-- What the code and the proofs go by beside Loading; no public contract cites it.
use Rattle.std.specs.Prelude.{◌≡◌, ◌⊎◌, ℕ, List, [], ◌∷◌, None, map, Result, Ok, Err}
use Rattle.volume_spec.specs.SoundVolume.{IsSoundVolume}
use Rattle.volume_spec.specs.VolumeState.{VolumeState, fresh_volume}
use Rattle.volume_edits.specs.edits.lemma.Whole.{IsWhole}
use Rattle.record_keeper.specs.declared.record.Record.{Record}
use Rattle.record_keeper.specs.declared.record.Change.{Change}
use Rattle.record_keeper.specs.declared.reading.ReadAllFault.{ReadAllFault}
use Rattle.record_keeper.specs.declared.reading.ReadAllFault.TheVariants as read
use Rattle.volume_keeper_records.specs.declared.rows.Reason.TheVariants.{Shape, Limit}
use Rattle.volume_keeper_records.specs.declared.rows.TableRow.{TableRow}
use Rattle.volume_keeper_records.specs.FirstBad.{first_bad_record}
use Rattle.volume_keeper_records.specs.Image.{IsOld, image, old, rows_of, tables_of}
use Rattle.volume_keeper_records.specs.Migration.{migration, put_of}
use Rattle.volume_keeper_records.specs.Records.{old_version, version}
use Rattle.volume_keeper.specs.declared.loading.loading.LoadFault.{LoadFault}
use Rattle.volume_keeper.specs.declared.loading.loading.LoadFault.TheVariants.{BadRecord, Failed, Memory}

-- From here on for private contracts. How a volume was made, and by which changes what is kept becomes its own: there was no record, and all of its are put;
-- the records are its image, and nothing changes; or they are those of the older version, and are turned into it.
pub record IsMadeFresh (name : List ℕ) (now : ℕ) (records : List Record) (changes : List Change) (v : VolumeState) : Type 0 where
  pub none : records ≡ []
  pub fresh : v ≡ fresh_volume name now
  pub put : changes ≡ map put_of (rows_of (tables_of version v))

pub record IsMadeAgain (records : List Record) (changes : List Change) (v : VolumeState) : Type 0 where
  pub some : records ≡ [] → ⊥
  pub image : image v ≡ records
  pub still : changes ≡ []

pub record IsRaised (records : List Record) (changes : List Change) (v : VolumeState) : Type 0 where
  pub some : records ≡ [] → ⊥
  pub guests : IsOld v
  pub older : old v ≡ records
  pub migrated : changes ≡ migration v

-- a volume that was made where these records, by rising key, are all that is kept
pub record IsMadeOf (name : List ℕ) (now : ℕ) (records : List Record) (changes : List Change) (v : VolumeState) : Type 0 where
  pub good : first_bad_record name records ≡ None
  pub sound : IsSoundVolume v
  pub named : v.name ≡ name
  pub how : IsMadeFresh name now records changes v ⊎ (IsMadeAgain records changes v ⊎ IsRaised records changes v)

-- rows are those of a volume, in the version that is written, or in the older one
pub record AreRowsOf (rows : List TableRow) (v : VolumeState) : Type 0 where
  pub whole : IsWhole v
  pub either : (rows ≡ rows_of (tables_of version v)) ⊎ (IsOld v × (rows ≡ rows_of (tables_of old_version v)))

-- the volume that rows are of was made, with these changes
pub record IsMadeOfRows (rows : List TableRow) (changes : List Change) (made : VolumeState) (v : VolumeState) : Type 0 where
  pub is : made ≡ v
  pub again : rows ≡ rows_of (tables_of version v) → changes ≡ []
  pub raised : rows ≡ rows_of (tables_of old_version v) → changes ≡ migration v

-- a fault that does not come from the keeper
abbrev pub IsNotFailed : LoadFault → Type 0
IsNotFailed (BadRecord key reason) = Unit {0}
IsNotFailed Failed = ⊥
IsNotFailed Memory = Unit {0}

-- a fault that says nothing of records
abbrev pub IsNotBad : LoadFault → Type 0
IsNotBad (BadRecord key reason) = ⊥
IsNotBad Failed = Unit {0}
IsNotBad Memory = Unit {0}

-- what a keeper that was not read whole is
abbrev pub IsReadFault : ReadAllFault → LoadFault → Type 0
IsReadFault (read.TooMany key) fault = fault ≡ BadRecord key Limit
IsReadFault (read.Inconsistent key) fault = fault ≡ BadRecord key Shape
IsReadFault read.Failed fault = fault ≡ Failed
IsReadFault read.Memory fault = fault ≡ Memory
