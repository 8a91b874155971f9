-- Records say of which version they are, and so which of its two images a volume has in them.
use Rattle.std.proofs.Common.{◌≡◌, ◌∙◌, ℕ, List, refl, sym, ap, arith, inl, inr}
use Rattle.volume_spec.specs.VolumeState.{VolumeState}
use Rattle.record_keeper.specs.declared.record.Record.{Record}
use Rattle.volume_keeper_records.specs.Records.{version, old_version}
use Rattle.volume_keeper_records.specs.Image.{IsOld, image, old, tables_of}
use Rattle.volume_keeper_records.specs.FirstBad.{version_in}
use Rattle.volume_keeper_records.specs.Laws.{HasRecords}
use Rattle.volume_keeper_records.proofs.Whole.{said_version}

pub image_says : (v : VolumeState) → version_in (image v) ≡ version
image_says v = said_version (tables_of version v) refl

pub old_says : (v : VolumeState) → version_in (old v) ≡ old_version
old_says v = said_version (tables_of old_version v) refl

pub written_image : (name : List ℕ) (records : List Record) (v : VolumeState) → HasRecords name records v → version_in records ≡ version → image v ≡ records
written_image name records v has says = elim has.image [
  | inl is ↦ is
  | inr older ↦ absurd (let wrong : old_version ≡ version = sym (old_says v) ∙ ap version_in older.1 ∙ says in omega (arith, wrong))
]

pub older_image : (name : List ℕ) (records : List Record) (v : VolumeState) → HasRecords name records v → version_in records ≡ old_version → IsOld v × (old v ≡ records)
older_image name records v has says = elim has.image [
  | inl is ↦ absurd (let wrong : version ≡ old_version = sym (image_says v) ∙ ap version_in is ∙ says in omega (arith, wrong))
  | inr older ↦ older
]
