-- What turns the records of the older version into those of the one that is written (this profile).
use Rattle.std.specs.Prelude.{◌≡◌, List, ◌∷◌, map}
use Rattle.volume_spec.specs.SoundVolume.{IsSoundVolume}
use Rattle.volume_spec.specs.VolumeState.{VolumeState}
use Rattle.record_keeper.specs.declared.record.Change.{Change}
use Rattle.record_keeper.specs.declared.record.Change.TheVariants.{Put, Remove}
use Rattle.record_keeper.specs.Records.{changed}
use Rattle.volume_keeper_records.specs.declared.rows.TableRow.{TableRow}
use Rattle.volume_keeper_records.specs.declared.rows.TableRow.TheVariants as row
use Rattle.volume_keeper_records.specs.Records.{version, record_of}
use Rattle.volume_keeper_records.specs.Image.{kept_image, kept_old, tables_of}

-- the record that says a row is put, or is taken away
abbrev pub put_of : TableRow → Change
put_of x = Put (record_of x).key (record_of x).value

abbrev pub removal_of : TableRow → Change
removal_of x = Remove (record_of x).key

-- the head's record is put, and each node's, by rising id; all others are the same in both versions
abbrev pub migration : VolumeState → List Change
migration v = put_of (row.Head (tables_of version v).head) ∷ map (λ node. put_of (row.Node node)) (tables_of version v).nodes

-- so the records of a volume in the older version become its image
abbrev pub MigrationGivesImage : Type 0
MigrationGivesImage = (v : VolumeState) → IsSoundVolume v → changed (migration v) (kept_old v) ≡ kept_image v
