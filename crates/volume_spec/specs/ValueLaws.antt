-- The laws of what is told of a volume and of its nodes (this profile).
use Rattle.std.specs.Prelude.{◌≡◌, ℕ, ℤ, ◌<◌, ◌^◌, true, false, List, ◌++◌, [], Option, None, Some, is_some, if◌then◌else◌}
use Rattle.byteorder.specs.Endian.{big_bytes}
use Rattle.afp_bitmap.specs.Bits.{is_asked, is_outside}
use Rattle.afp_bitmap.specs.Params.{params, IsAnswer}
use Rattle.afp_bitmap.specs.declared.file.FileValues.{FileValues}
use Rattle.afp_bitmap.specs.declared.directory.DirValues.{DirValues}
use Rattle.afp_bitmap.specs.declared.params.Values.TheVariants.{Volume, File, Dir}
use Rattle.afp_names.specs.Path.{PathValue}
use Rattle.volume_spec.specs.VolumeState.{Row, VolumeState}
use Rattle.volume_spec.specs.SoundVolume.{IsSoundVolume}
use Rattle.volume_spec.specs.TypedVolume.{is_typed_volume}
use Rattle.volume_spec.specs.Walk.{has_directory, row_at}
use Rattle.volume_spec.specs.Shared.{Opened}
use Rattle.volume_spec.specs.GetFileDirParms.{get_file_dir_parms_refusal, get_file_dir_parms_values}
use Rattle.volume_spec.specs.GetVolParms.{volume_values}
use Rattle.volume_spec.specs.NodeValues.{bits_of, node_values}
use Rattle.volume_spec.specs.SetFileDirParms.{rights_in, Settings, is_short_tail, settings_in, settable_bits, settable_dir_bits}
use Rattle.volume_spec.specs.OpenDir.{open_dir_refusal, open_dir_id}

-- what is told of a volume, of a file (kind 1) and of a directory (kind 2) are values that the bits ask for, each one of its type
abbrev pub VolumeIsTold : Type 0
VolumeIsTold = (v : VolumeState) (id bits : ℕ) → id < 2 ^ 16 → IsSoundVolume v → is_typed_volume v ≡ true → IsAnswer 0 bits (Volume (volume_values v id bits))

abbrev pub NodeIsTold : Type 0
NodeIsTold = (v : VolumeState) (user : ℕ) (opens : List Opened) (file_bits dir_bits id : ℕ) (row : Row) → row_at v.rows id ≡ Some row → IsSoundVolume v → is_typed_volume v ≡ true
    → IsAnswer (if row.dir then 2 else 1) (bits_of file_bits dir_bits row) (node_values v.rows user opens file_bits dir_bits row)

-- where FPGetFileDirParms is not refused something is told; where FPOpenDir is not, the id of a directory
abbrev pub FoundIsTold : Type 0
FoundIsTold = (v : VolumeState) (user : ℕ) (opens : List Opened) (file_bits dir_bits dir : ℕ) (path : PathValue) → get_file_dir_parms_refusal v user file_bits dir_bits dir path ≡ None → IsSoundVolume v → is_some (get_file_dir_parms_values v user opens file_bits dir_bits dir path) ≡ true

abbrev pub DirIsTold : Type 0
DirIsTold = (v : VolumeState) (user : ℕ) (dir : ℕ) (path : PathValue) → open_dir_refusal v user dir path ≡ None → (id : ℕ) × (open_dir_id v user dir path ≡ Some id) × (has_directory v.rows id ≡ true)

-- what is asked of these values, as settings
abbrev pub asked_some : {A : Type 0} → ℕ → ℕ → A → Option A
asked_some bits bit value = if is_asked bits bit then Some value else None

abbrev pub settings_told : ℕ → ℕ → ℤ → ℤ → ℤ → List ℕ → ℕ → ℕ → List ℕ → Settings
settings_told bits attributes created modified backup finder owner group rights = record {
  attributes = asked_some bits 0 attributes;
  created = asked_some bits 2 created;
  modified = asked_some bits 3 modified;
  backup = asked_some bits 4 backup;
  finder = asked_some bits 5 finder;
  owner = asked_some bits 10 owner;
  group = asked_some bits 11 group;
  rights = asked_some bits 12 rights;
}

-- a set call takes what is told: for bits that may be set, the block of a node's values is a tail that is not short and sets these values,
-- whatever follows it
abbrev pub FileIsSetAsTold : Type 0
FileIsSetAsTold = (bits : ℕ) (f : FileValues) (rest : List ℕ) → is_outside settable_bits bits ≡ false → IsAnswer 1 bits (File f)
    → (is_short_tail bits (params bits (File f) ++ rest) ≡ false) × (settings_in bits (params bits (File f) ++ rest) ≡ settings_told bits f.attributes f.created f.modified f.backup f.finder 0 0 (rights_in []))

abbrev pub DirIsSetAsTold : Type 0
DirIsSetAsTold = (bits : ℕ) (d : DirValues) (rest : List ℕ) → is_outside settable_dir_bits bits ≡ false → IsAnswer 2 bits (Dir d)
    → (is_short_tail bits (params bits (Dir d) ++ rest) ≡ false) × (settings_in bits (params bits (Dir d) ++ rest) ≡ settings_told bits d.attributes d.created d.modified d.backup d.finder d.owner d.group (rights_in (big_bytes 4 d.rights)))
