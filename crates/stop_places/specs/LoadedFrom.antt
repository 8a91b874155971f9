-- From which records a volume is loaded (this profile).
use Rattle.std.specs.Prelude.{◌≡◌, ℕ, List, None}
use Rattle.std.specs.FinMap as map
use Rattle.volume_spec.specs.VolumeState.{VolumeState}
use Rattle.record_keeper.specs.Records.{Records}
use Rattle.volume_keeper_records.specs.FirstBad.{first_bad_record, version_in}
use Rattle.volume_keeper_records.specs.Image.{IsOld, kept_in, records_in}
use Rattle.volume_keeper_records.specs.Records.{old_version}

-- No record is bad, and the records are the image of the volume in their own version; or there are none.
pub record IsLoadedFrom (name : List ℕ) (held : Records) (v : VolumeState) : Type 0 where
  pub good : first_bad_record name (records_in held) ≡ None
  pub image : (held ≡ map.empty → ⊥) → kept_in (version_in (records_in held)) v ≡ held
  pub older : version_in (records_in held) ≡ old_version → IsOld v
