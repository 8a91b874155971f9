-- The worked examples compute.
use Rattle.std.proofs.Common.{refl}
use Rattle.afp_bitmap.specs.Bits.{is_asked}
use Rattle.afp_bitmap.specs.Params.{asked_of}
use Rattle.afp_bitmap.specs.Table.{rows, volume_rows}
use Rattle.volume_spec.specs.GetVolParms.{volume_values, free_bytes}
use Rattle.volume_spec.specs.SetFileDirParms.{settings_in, field_in, is_short_tail, attributes_by}
use Rattle.volume_spec.specs.WorkedExamples.{FreshVolumeIsTold, RootIsTheGuests, NewFileIsNobodys, RightsAreInOrder, DirectoryHasRights, FileHasNoRights, RightsAreThreeBits, TailIsRead, TailIsLongEnough, TailIsTooShort, AttributesAreSet, AttributesAreCleared, AttributesAreMasked}

pub fresh-volume-is-told : FreshVolumeIsTold
unfolding volume_values free_bytes rows volume_rows asked_of is_asked
fresh-volume-is-told = refl

pub root-is-the-guests : RootIsTheGuests
root-is-the-guests = refl

pub new-file-is-nobodys : NewFileIsNobodys
new-file-is-nobodys = refl

pub rights-are-in-order : RightsAreInOrder
rights-are-in-order = refl

pub directory-has-rights : DirectoryHasRights
directory-has-rights = refl

pub file-has-no-rights : FileHasNoRights
file-has-no-rights = refl

pub rights-are-three-bits : RightsAreThreeBits
rights-are-three-bits = refl

pub tail-is-read : TailIsRead
unfolding settings_in field_in is_asked
tail-is-read = refl

pub tail-is-long-enough : TailIsLongEnough
unfolding is_short_tail is_asked
tail-is-long-enough = refl

pub tail-is-too-short : TailIsTooShort
unfolding is_short_tail is_asked
tail-is-too-short = refl

pub attributes-are-set : AttributesAreSet
unfolding attributes_by
attributes-are-set = refl

pub attributes-are-cleared : AttributesAreCleared
unfolding attributes_by
attributes-are-cleared = refl

pub attributes-are-masked : AttributesAreMasked
unfolding attributes_by
attributes-are-masked = refl
