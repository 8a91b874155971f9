-- FPGetVolParms (AFP Reference, "FPGetVolParms", "Volume Bitmap"; the fixed values are this profile's).
use Rattle.std.specs.Prelude.{ℕ, pos, ◌-◌, ◌==◌, ◌||◌, [], ◌∷◌, Option}
use Rattle.afp_base.specs.Choice.{first_holding}
use Rattle.afp_base.specs.declared.code.Code.{Code}
use Rattle.afp_base.specs.declared.code.Code.TheVariants.{BitmapErr}
use Rattle.afp_bitmap.specs.Bits.{volume_mask, is_outside}
use Rattle.afp_bitmap.specs.declared.volume.VolumeValues.{VolumeValues}
use Rattle.volume_spec.specs.VolumeState.{VolumeState}
use Rattle.afp_base.specs.Limits.{block_size, most_fork_bytes}
use Rattle.volume_spec.specs.SoundVolume.{fork_bytes}
use Rattle.volume_spec.specs.Parms.{asked_or}

-- why it is refused (this profile)
unfoldable pub get_vol_parms_refusal : ℕ → Option Code
get_vol_parms_refusal bits = first_holding ((is_outside volume_mask bits || (bits == 0), BitmapErr) ∷ [])

-- the attributes of each volume: it has file ids, and names in UTF-8 (AFP Reference, "Volume Attributes Bitmap")
abbrev pub volume_attributes : ℕ
volume_attributes = 0x0044

-- the signature of a volume with fixed directory ids (AFP Reference, "Volume Signature")
abbrev pub fixed_directory_ids : ℕ
fixed_directory_ids = 2

-- the bytes that forks may still take: all of the volume, less those of all forks (this profile)
unfoldable pub free_bytes : VolumeState → ℕ
free_bytes v = most_fork_bytes - fork_bytes v.rows

-- what is told of a volume of this id: each value whose bit is asked, by its bit (AFP Reference, "Volume Bitmap")
unfoldable pub volume_values : VolumeState → ℕ → ℕ → VolumeValues
volume_values v id bits = record {
  attributes = asked_or bits 0 0 volume_attributes;
  signature = asked_or bits 1 0 fixed_directory_ids;
  created = asked_or bits 2 (pos 0) v.created;
  modified = asked_or bits 3 (pos 0) v.modified;
  backup = asked_or bits 4 (pos 0) v.backup;
  volume = asked_or bits 5 0 id;
  free = asked_or bits 6 0 (free_bytes v);
  total = asked_or bits 7 0 most_fork_bytes;
  name = asked_or bits 8 [] v.name;
  ext_free = asked_or bits 9 0 (free_bytes v);
  ext_total = asked_or bits 10 0 most_fork_bytes;
  block_size = asked_or bits 11 0 block_size;
}
