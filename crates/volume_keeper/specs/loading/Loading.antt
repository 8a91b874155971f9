-- What a load answers, and what it does to the records of a keeper (this profile).
use Rattle.std.specs.Prelude.{◌≡◌, ℕ, ◌<◌, ◌≤◌, Bool, true, List, [], Option, Some, None, IfSome, Result, Ok, Err, OnOk, IfErr}
use Rattle.std.specs.FinMap.{entries}
use Rattle.volume_spec.specs.VolumeState.{VolumeState, fresh_volume}
use Rattle.record_keeper.specs.declared.record.Record.{Record}
use Rattle.record_keeper.specs.Records.{Records}
use Rattle.volume_keeper_records.specs.FirstBad.{first_bad_record, version_in}
use Rattle.volume_keeper_records.specs.Image.{IsOld, kept_image, kept_old, records_in}
use Rattle.volume_keeper_records.specs.Records.{old_version, version}
use Rattle.volume_keeper.specs.declared.loading.loading.LoadFault.{LoadFault}
use Rattle.volume_keeper.specs.declared.loading.loading.LoadFault.TheVariants.{BadRecord, Failed, Memory}
use Rattle.volume_edits.specs.edits.Whole.{VolumeValue}

-- where records are told afterwards, they were told before, and both are so
abbrev pub FromTold : (Records → Records → Type 0) → Option Records → Records → Type 0
FromTold P None new = ⊥
FromTold P (Some old) new = P old new

abbrev pub Becomes : (Records → Records → Type 0) → Option Records → Option Records → Type 0
Becomes P old new = IfSome new (FromTold P old)

-- a fault, as records by rising key say: the first that is bad is so refused
abbrev pub IsFaultIn : List ℕ → List Record → LoadFault → Type 0
IsFaultIn name records (BadRecord key reason) = first_bad_record name records ≡ Some (record { key = key; reason = reason })
IsFaultIn name records Failed = Unit {0}
IsFaultIn name records Memory = Unit {0}

-- A volume that was loaded: none of the records was bad, and those that are kept now are its image. Where there was none it is a fresh one. Where they were
-- of the older version they were those of the volume, all of whose directories are the guest's; else they are as they were.
pub record IsLoaded (name : List ℕ) (now : ℕ) (old new : Records) (v : VolumeState) : Type 0 where
  pub good : first_bad_record name (records_in old) ≡ None
  pub image : kept_image v ≡ new
  pub fresh : entries old ≡ [] → v ≡ fresh_volume name now
  pub same : (entries old ≡ [] → ⊥) → version_in (records_in old) ≡ version → new ≡ old
  pub migrated : version_in (records_in old) ≡ old_version → IsOld v × (kept_old v ≡ old)

-- what a load does to the records
abbrev pub IsLoad : List ℕ → ℕ → Result VolumeValue LoadFault → Records → Records → Type 0
IsLoad name now (Ok whole) old new = IsLoaded name now old new whole.state
IsLoad name now (Err fault) old new = (new ≡ old) × IsFaultIn name (records_in old) fault

-- the count of the keeper's faults beside a fault: it rose beside Failed alone
abbrev pub CountsLoadFault : ℕ → ℕ → LoadFault → Type 0
CountsLoadFault before now (BadRecord key reason) = now ≡ before
CountsLoadFault before now Failed = before < now
CountsLoadFault before now Memory = now ≡ before

-- The count of the keeper's faults never falls. It rises beside Failed, and beside no other answer; that of a sure keeper never rises.
pub record HasLoadCause {T : Type 0} (sure : Bool) (before now : ℕ) (result : Result T LoadFault) : Type 0 where
  pub later : before ≤ now
  pub answered : OnOk result (now ≡ before)
  pub fault : IfErr result (CountsLoadFault before now)
  pub still : sure ≡ true → now ≡ before
