-- What is told of a volume for its records.
use Rattle.std.proofs.Common.{◌≡◌, refl}
use Rattle.std.specs.Prelude.{Option, Some, None, option_map}
use Rattle.volume_spec.specs.VolumeState.{Icon}
use Rattle.volume_keeper_records.specs.Records.{icon_record}
use Rattle.volume_changes.specs.steps.lemma.Records.{icon_bytes}

-- an icon's record
pub icon-told : (o : Option Icon) → option_map icon_bytes (option_map (λ (icon : Icon). (icon.tag, icon.bits)) o) ≡ option_map (λ (icon : Icon). (icon_record icon).value) o
unfolding icon_record
icon-told None = refl
icon-told (Some icon) = refl
