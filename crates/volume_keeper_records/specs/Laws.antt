-- The laws of a volume's records, in the subject's own words (this profile).
use Rattle.std.specs.Prelude.{◌≡◌, ℕ, true, List, [], Some, None, ◌⊎◌}
use Rattle.std.specs.FinMap.{entries}
use Rattle.volume_spec.specs.VolumeState.{VolumeState}
use Rattle.volume_spec.specs.SoundVolume.{IsSoundVolume}
use Rattle.volume_spec.specs.TypedVolume.{is_typed_volume}
use Rattle.record_keeper.specs.declared.record.Record.{Record}
use Rattle.volume_keeper_records.specs.declared.rows.TableRow.{TableRow}
use Rattle.volume_keeper_records.specs.Records.{version, old_version, record_of}
use Rattle.volume_keeper_records.specs.Shape.{Label, is_formed_record, row_in}
use Rattle.volume_keeper_records.specs.Image.{Records, IsOld, image, image_in, old, kept_image, kept_old, records_in, tables_of}
use Rattle.volume_keeper_records.specs.FromTables.{volume_of}
use Rattle.volume_keeper_records.specs.KeyOrder.{RisesByKey}
use Rattle.volume_keeper_records.specs.FirstBad.{first_bad_record}

-- a row that is of a volume's shape is read from its record, and what is read is of that shape and has just that record
abbrev pub RowsAreReadBack : Type 0
RowsAreReadBack = (name : Label) (x : TableRow) → is_formed_record name x ≡ true → row_in name (record_of x) ≡ Some x

abbrev pub ReadRowsAreFormed : Type 0
ReadRowsAreFormed = (name : Label) (r : Record) (x : TableRow) → row_in name r ≡ Some x → is_formed_record name x ≡ true

abbrev pub ReadRowsAreTheirs : Type 0
ReadRowsAreTheirs = (name : Label) (r : Record) (x : TableRow) → row_in name r ≡ Some x → record_of x ≡ r

-- a volume of that name, sound, with numbers in their ranges
pub record IsVolume (name : List ℕ) (v : VolumeState) : Type 0 where
  pub sound : IsSoundVolume v
  pub typed : is_typed_volume v ≡ true
  pub named : v.name ≡ name

-- the records of a sound volume rise by key
abbrev pub ImagesRise : Type 0
ImagesRise = (v : VolumeState) (version : ℕ) → IsSoundVolume v → RisesByKey (image_in version v)

-- where its numbers are in their ranges too, none of them is bad; nor of those of the older version
abbrev pub OldAreGood : Type 0
OldAreGood = (name : List ℕ) (v : VolumeState) → IsVolume name v → first_bad_record name (old v) ≡ None

abbrev pub ImagesAreGood : Type 0
ImagesAreGood = (name : List ℕ) (v : VolumeState) → IsVolume name v → first_bad_record name (image v) ≡ None

-- a volume that has just these records
pub record HasRecords (name : List ℕ) (records : List Record) (v : VolumeState) : Type 0 where
  pub volume : IsVolume name v
  pub image : (image v ≡ records) ⊎ (IsOld v × (old v ≡ records))

-- records by rising key of which none is bad are those of a volume
abbrev pub GoodAreImages : Type 0
GoodAreImages = (name : List ℕ) (records : List Record) → RisesByKey records → (records ≡ [] → ⊥) → first_bad_record name records ≡ None → (v : VolumeState) × HasRecords name records v

-- and of one alone
abbrev pub ImagesDiffer : Type 0
ImagesDiffer = (name : List ℕ) (v w : VolumeState) → IsVolume name v → IsVolume name w → image v ≡ image w → v ≡ w

-- The same of records as a keeper has them: of a volume none is bad; where none is bad they are those of a volume; and of one alone.
abbrev pub KeptAreGood : Type 0
KeptAreGood = (name : List ℕ) (v : VolumeState) → IsVolume name v → first_bad_record name (records_in (kept_image v)) ≡ None

-- a volume that a keeper holds
pub record HasKeptRecords (name : List ℕ) (kept : Records) (v : VolumeState) : Type 0 where
  pub volume : IsVolume name v
  pub image : (kept_image v ≡ kept) ⊎ (IsOld v × (kept_old v ≡ kept))

abbrev pub GoodAreKept : Type 0
GoodAreKept = (name : List ℕ) (kept : Records) → (entries kept ≡ [] → ⊥) → first_bad_record name (records_in kept) ≡ None → (v : VolumeState) × HasKeptRecords name kept v

abbrev pub KeptDiffer : Type 0
KeptDiffer = (name : List ℕ) (v w : VolumeState) → IsVolume name v → IsVolume name w → kept_image v ≡ kept_image w → v ≡ w

-- a sound volume is the one that its tables say, those of the older version too, where they say all of it
abbrev pub TablesSayVolumes : Type 0
TablesSayVolumes = (v : VolumeState) → IsSoundVolume v → volume_of v.name (tables_of version v) ≡ v

abbrev pub OldTablesSayVolumes : Type 0
OldTablesSayVolumes = (v : VolumeState) → IsSoundVolume v → IsOld v → volume_of v.name (tables_of old_version v) ≡ v
