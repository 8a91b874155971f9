-- The laws of the replies to FPGetVolParms and FPGetFileDirParms (AFP Reference, under these names).
use Rattle.std.specs.Prelude.{◌≡◌, ℕ, ◌<◌, ◌^◌, true, List, None, Some}
use Rattle.afp_bitmap.specs.declared.params.Values.{Values}
use Rattle.afp_bitmap.specs.declared.params.Values.TheVariants.{Volume}
use Rattle.afp_names.specs.Path.{PathValue}
use Rattle.afp_replies.specs.declared.reply.Reply.TheVariants.{Params, FileDirParams}
use Rattle.afp_replies.specs.Fitting.{FitsReply}
use Rattle.volume_spec.specs.Shared.{Opened}
use Rattle.volume_spec.specs.GetFileDirParms.{get_file_dir_parms_refusal, get_file_dir_parms_values}
use Rattle.volume_spec.specs.GetVolParms.{get_vol_parms_refusal, volume_values}
use Rattle.volume_spec.specs.SoundVolume.{IsSoundVolume}
use Rattle.volume_spec.specs.TypedVolume.{is_typed_volume}
use Rattle.volume_spec.specs.VolumeState.{VolumeState}

-- what is told of a volume, and of a node that was found, is shown by some bytes where it is not refused
abbrev pub VolumeIsShown : Type 0
VolumeIsShown = (v : VolumeState) (id bits : ℕ) → id < 2 ^ 16 → get_vol_parms_refusal bits ≡ None → IsSoundVolume v → is_typed_volume v ≡ true → FitsReply (Params bits (Volume (volume_values v id bits)))

abbrev pub NodeIsShown : Type 0
NodeIsShown = (v : VolumeState) (user : ℕ) (opens : List Opened) (file_bits dir_bits dir : ℕ) (path : PathValue) (values : Values) → get_file_dir_parms_refusal v user file_bits dir_bits dir path ≡ None
    → get_file_dir_parms_values v user opens file_bits dir_bits dir path ≡ Some values → IsSoundVolume v → is_typed_volume v ≡ true → FitsReply (FileDirParams file_bits dir_bits values)
