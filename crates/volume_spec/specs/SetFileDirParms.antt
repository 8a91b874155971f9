-- FPSetFileParms, FPSetDirParms and FPSetFileDirParms (AFP Reference, under these names; which bits may be set and the order of refusals
-- are this profile's).
use Rattle.std.specs.Prelude.{ℕ, ℤ, ◌==◌, Bool, true, false, not, ◌&&◌, ◌||◌, slice_index, List, [], ◌∷◌, length, take, drop, sum_by, Option, Some, None, option_map, unwrap_or, nat_le, nat_lt, bit_and, bit_or, if◌then◌else◌}
use Rattle.std.specs.List.{filter, list_any}
use Rattle.std.specs.Int.{bit_not, w16}
use Rattle.byteorder.specs.Endian.{big_number}
use Rattle.afp_base.specs.Choice.{first_holding}
use Rattle.afp_base.specs.declared.code.Code.{Code}
use Rattle.afp_base.specs.declared.code.Code.TheVariants.{AccessDenied, BitmapErr, ItemNotFound, ObjectTypeErr, ParamErr}
use Rattle.afp_bitmap.specs.Bits.{is_asked, is_outside}
use Rattle.afp_names.specs.Path.{PathValue}
use Rattle.volume_spec.specs.VolumeState.{Row, Privileges, VolumeState, all_rights, only_group, guest, finder_size, privileges_of, rights_bytes}
use Rattle.volume_spec.specs.SoundVolume.{are_rights, has_file, file_attributes, dir_attributes}
use Rattle.volume_spec.specs.Walk.{found, has_directory}
use Rattle.volume_spec.specs.Edits.{with_changed, changed_at}
use Rattle.volume_spec.specs.Shared.{behind, done_at, first_or, lacks_above}
use Rattle.volume_spec.specs.Parms.{date_in}
use Rattle.volume_spec.specs.Rights.{is_owner, write_right}

-- the bits that may be set: attributes, three dates, Finder info; of a directory by FPSetDirParms also owner, group and access rights
-- (AFP Reference, "File Bitmap", "Directory Bitmap")
abbrev pub settable_bits : ℕ
settable_bits = 0x003d

abbrev pub settable_dir_bits : ℕ
settable_dir_bits = 0x1c3d

-- the fields of the tail by rising bit: the bit, and the field's size in bytes (AFP Reference, "File Bitmap", "Directory Bitmap")
abbrev pub set_fields : List (ℕ × ℕ)
set_fields =
    (0, 2)
    ∷ (2, 4)
    ∷ (3, 4)
    ∷ (4, 4)
    ∷ (5, finder_size)
    ∷ (10, 4)
    ∷ (11, 4)
    ∷ (12, 4)
    ∷ []

-- the bytes that these fields take, as far as they are asked (AFP Reference, "FPSetFileDirParms")
abbrev pub asked_bytes : ℕ → List (ℕ × ℕ) → ℕ
asked_bytes bits fields = sum_by (λ (field : ℕ × ℕ). if is_asked bits field.0 then field.1 else 0) fields

-- whether the tail has fewer bytes than the fields that are asked (this profile)
unfoldable pub is_short_tail : ℕ → List ℕ → Bool
is_short_tail bits tail = nat_lt (length tail) (asked_bytes bits set_fields)

-- the bytes of the field of this bit and size, where it is asked: they stand behind the fields of lower bits (AFP Reference, "FPSetFileDirParms")
unfoldable pub field_in : ℕ → List ℕ → ℕ → ℕ → Option (List ℕ)
field_in bits tail bit size =
    if is_asked bits bit then Some (take size (drop (asked_bytes bits (filter (λ field. nat_lt field.0 bit) set_fields)) tail)) else None

-- the bits of owner, group and access rights
abbrev pub owner_bits : ℕ
owner_bits = 0x1c00

-- the rights of everyone, of the group and of the owner, of four bytes: the first is dropped, and of the others the three low bits are kept (this profile)
abbrev pub rights_in : List ℕ → List ℕ
rights_in bytes = bit_and (slice_index bytes 1) all_rights ∷ bit_and (slice_index bytes 2) all_rights ∷ bit_and (slice_index bytes 3) all_rights ∷ []

-- what is set, where it is: attributes by their word, dates, Finder info; owner, group and access rights of a directory (this profile)
pub record Settings : Type 0 where
  pub attributes : Option ℕ
  pub created : Option ℤ
  pub modified : Option ℤ
  pub backup : Option ℤ
  pub finder : Option (List ℕ)
  pub owner : Option ℕ
  pub group : Option ℕ
  pub rights : Option (List ℕ)

-- whether the Finder info that is set, if some is, has its size (this profile)
abbrev pub has_sized_finder : Settings → Bool
has_sized_finder s = unwrap_or (option_map (λ (info : List ℕ). length info == finder_size) s.finder) true

-- whether the rights that are set, if some are, have three bits each (this profile)
abbrev pub has_fit_rights : Settings → Bool
has_fit_rights s = unwrap_or (option_map (λ (rights : List ℕ). are_rights (privileges_of 0 0 rights)) s.rights) true

-- whether a node may get these settings
abbrev pub are_fit_settings : Settings → Bool
are_fit_settings s = has_sized_finder s && has_fit_rights s

-- the settings that the tail holds for these bits (AFP Reference, "FPSetFileDirParms")
unfoldable pub settings_in : ℕ → List ℕ → Settings
settings_in bits tail = record {
  attributes = option_map (big_number 2) (field_in bits tail 0 2);
  created = option_map date_in (field_in bits tail 2 4);
  modified = option_map date_in (field_in bits tail 3 4);
  backup = option_map date_in (field_in bits tail 4 4);
  finder = field_in bits tail 5 finder_size;
  owner = option_map (big_number 4) (field_in bits tail 10 4);
  group = option_map (big_number 4) (field_in bits tail 11 4);
  rights = option_map rights_in (field_in bits tail 12 4);
}

-- the bit of an attributes word that says that its others are to be set; without it they are to be cleared (AFP Reference, "File attributes")
abbrev pub set_or_clear : ℕ
set_or_clear = 0x8000

-- the attributes that a node of that kind has (AFP Reference, "File attributes", "Directory attributes")
abbrev pub settable : Bool → ℕ
settable dir = if dir then dir_attributes else file_attributes

-- attributes with those of a word set or cleared, as far as a node of that kind has them (AFP Reference, "FPSetFileDirParms")
unfoldable pub attributes_by : Bool → ℕ → ℕ → ℕ
attributes_by dir word old = bit_and (settable dir) (if nat_le set_or_clear word then bit_or old word else bit_and old (bit_not w16 word))

-- the privileges of a directory with what is set of them; a file has none (this profile)
unfoldable pub privileges_by : Bool → Settings → Privileges → Privileges
privileges_by dir s p =
    if dir then privileges_of (unwrap_or s.owner p.owner) (unwrap_or s.group p.group) (unwrap_or s.rights (rights_bytes p))
    else p

-- a row with these settings (AFP Reference, "FPSetFileDirParms")
unfoldable pub with_settings : Settings → Row → Row
with_settings s row = record row {
  attributes = unwrap_or (option_map (λ (word : ℕ). attributes_by row.dir word row.attributes) s.attributes) row.attributes;
  created = unwrap_or s.created row.created;
  modified = unwrap_or s.modified row.modified;
  backup = unwrap_or s.backup row.backup;
  finder = unwrap_or s.finder row.finder;
  privileges = privileges_by row.dir s row.privileges;
}

-- why FPSetFileParms is refused (this profile)
unfoldable pub set_file_parms_refusal : VolumeState → ℕ → ℕ → ℕ → PathValue → List ℕ → Option Code
set_file_parms_refusal v user dir bits path tail = first_or ((is_outside settable_bits bits, BitmapErr) ∷ [])
    (behind (found v.rows user dir path) (λ id. first_holding (
    (not (has_file v.rows id), ObjectTypeErr)
    ∷ (lacks_above v.rows user write_right id, AccessDenied)
    ∷ (is_short_tail bits tail, ParamErr)
    ∷ [])))

-- why FPSetDirParms is refused (this profile)
unfoldable pub set_dir_parms_refusal : VolumeState → ℕ → ℕ → ℕ → PathValue → List ℕ → Option Code
set_dir_parms_refusal v user dir bits path tail = first_or ((is_outside settable_dir_bits bits, BitmapErr) ∷ [])
    (behind (found v.rows user dir path) (λ id. first_holding (
    (not (has_directory v.rows id), ObjectTypeErr)
    ∷ (lacks_above v.rows user write_right id, AccessDenied)
    ∷ (not (bit_and bits owner_bits == 0) && not (is_owner v.rows user id), AccessDenied)
    ∷ (is_short_tail bits tail, ParamErr)
    ∷ [])))

-- why FPSetFileDirParms is refused (this profile)
unfoldable pub set_file_dir_parms_refusal : VolumeState → ℕ → ℕ → ℕ → PathValue → List ℕ → Option Code
set_file_dir_parms_refusal v user dir bits path tail = first_or ((is_outside settable_bits bits, BitmapErr) ∷ [])
    (behind (found v.rows user dir path) (λ id. first_holding ((lacks_above v.rows user write_right id, AccessDenied) ∷ (is_short_tail bits tail, ParamErr) ∷ [])))

-- a volume with these settings of a node; whatever is set counts as a change of the volume (this profile)
unfoldable pub with_node_set : ℕ → ℕ → Settings → VolumeState → VolumeState
with_node_set now id s v = changed_at now (record v { rows = with_changed id (with_settings s) v.rows })

-- what each of the three calls does: the node that was found has the settings of the tail (AFP Reference, under their names)
unfoldable pub set_parms_effect : VolumeState → ℕ → ℕ → ℕ → ℕ → PathValue → List ℕ → VolumeState
set_parms_effect v user now dir bits path tail = done_at (found v.rows user dir path) v (λ id. with_node_set now id (settings_in bits tail) v)

-- whether the owner that is set, if one is, is neither the guest nor a user of the house, or the group is another than the one (this profile)
unfoldable pub names_nobody : List ℕ → Settings → Bool
names_nobody users s =
    unwrap_or (option_map (λ (owner : ℕ). not (owner == guest) && not (list_any (λ id. id == owner) users)) s.owner) false
    || unwrap_or (option_map (λ (group : ℕ). not (group == only_group)) s.group) false

-- why FPSetDirParms is refused behind all that (this profile)
unfoldable pub set_dir_parms_behind : List ℕ → ℕ → List ℕ → Option Code
set_dir_parms_behind users bits tail = first_holding ((not (is_short_tail bits tail) && names_nobody users (settings_in bits tail), ItemNotFound) ∷ [])
