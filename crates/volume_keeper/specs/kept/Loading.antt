-- What a load makes of a keeper (this profile).
use Rattle.std.specs.Prelude.{◌≡◌, ℕ, Bool, true, List, Option, IfSome, None}
use Rattle.std.specs.FinMap as map
use Rattle.volume_spec.specs.SoundVolume.{IsSoundVolume}
use Rattle.volume_spec.specs.TypedVolume.{is_typed_volume}
use Rattle.volume_spec.specs.VolumeState.{VolumeState, fresh_volume}
use Rattle.volume_keeper.specs.kept.Kept.{KeptState}
use Rattle.record_keeper.specs.Records.{Records}
use Rattle.volume_keeper_records.specs.FirstBad.{first_bad_record, version_in}
use Rattle.volume_keeper_records.specs.Image.{IsOld, kept_in, records_in}
use Rattle.volume_keeper_records.specs.Records.{old_version}

-- A volume that was loaded under a name: it is sound, its numbers are in their ranges, and where the keeper held nothing it is one that nobody has used.
pub record IsLoadedVolume (name : List ℕ) (now : ℕ) (records : Option Records) (sure : Bool) (faults : ℕ) (kept : KeptState) : Type 0 where
  pub name_is : kept.state.name ≡ name
  pub sound : IsSoundVolume kept.state
  pub typed : is_typed_volume kept.state ≡ true
  pub fresh : IfSome records (λ held. held ≡ map.empty → kept.state ≡ fresh_volume name now)
  pub sure_is : kept.sure ≡ sure
  pub faults_are : kept.faults ≡ faults

-- A volume that was loaded from these records: none of them is bad, and where there are some they are the records of the volume in their version. Where
-- that is the older one, all directories are the guest's.
pub record IsLoadedFrom (name : List ℕ) (held : Records) (v : VolumeState) : Type 0 where
  pub good : first_bad_record name (records_in held) ≡ None
  pub image : (held ≡ map.empty → ⊥) → kept_in (version_in (records_in held)) v ≡ held
  pub older : version_in (records_in held) ≡ old_version → IsOld v
