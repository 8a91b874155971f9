-- Worked examples of what is told of a volume and of what is set (values worked by hand from the tables of bits).
use Rattle.std.specs.Prelude.{◌≡◌, ℕ, pos, negsuc, true, false, List, [], ◌∷◌, ◌++◌, map, Some, None}
use Rattle.afp_bitmap.specs.Params.{params}
use Rattle.afp_bitmap.specs.declared.params.Values.TheVariants.{Volume}
use Rattle.volume_spec.specs.SoundVolume.{has_fit_privileges}
use Rattle.volume_spec.specs.VolumeState.{fresh_volume, new_row, privileges_of}
use Rattle.volume_spec.specs.GetVolParms.{volume_values}
use Rattle.volume_spec.specs.SetFileDirParms.{settings_in, attributes_by, is_short_tail}

-- the name of a volume, `Share` (this profile)
abbrev pub share : List ℕ
share = 0x53 ∷ 0x68 ∷ 0x61 ∷ 0x72 ∷ 0x65 ∷ []

-- all that is told of volume 1, made at 100 seconds, that nobody has used (AFP Reference, "FPGetVolParms")
abbrev pub FreshVolumeIsTold : Type 0
FreshVolumeIsTold =
    params 0x0fff (Volume (volume_values (fresh_volume share 100) 1 0x0fff))
    ≡ (0x00 ∷ 0x44 ∷ 0x00 ∷ 0x02 ∷ 0x00 ∷ 0x00 ∷ 0x00 ∷ 0x64 ∷ 0x00 ∷ 0x00 ∷ 0x00 ∷ 0x64 ∷ 0x80 ∷ 0x00 ∷ 0x00 ∷ 0x00 ∷ 0x00 ∷ 0x01 ∷ [])
    ++ (0x10 ∷ 0x00 ∷ 0x00 ∷ 0x00 ∷ 0x10 ∷ 0x00 ∷ 0x00 ∷ 0x00 ∷ 0x00 ∷ 0x30 ∷ 0x00 ∷ 0x00 ∷ 0x00 ∷ 0x00 ∷ 0x10 ∷ 0x00 ∷ 0x00 ∷ 0x00 ∷ [])
    ++ (0x00 ∷ 0x00 ∷ 0x00 ∷ 0x00 ∷ 0x10 ∷ 0x00 ∷ 0x00 ∷ 0x00 ∷ 0x00 ∷ 0x00 ∷ 0x10 ∷ 0x00 ∷ [])
    ++ 0x05 ∷ share

-- the root of a volume that nobody has used is the guest's, and all may search, read and write (this profile)
abbrev pub RootIsTheGuests : Type 0
RootIsTheGuests = map (λ row. row.privileges) (fresh_volume share 100).rows ≡ record { owner = 500; group = 500; everyone_rights = 7; group_rights = 7; owner_rights = 7 } ∷ []

-- a new file has no owner, no group and no rights
abbrev pub NewFileIsNobodys : Type 0
NewFileIsNobodys = (new_row false 500 17 2 share 100).privileges ≡ record { owner = 0; group = 0; everyone_rights = 0; group_rights = 0; owner_rights = 0 }

-- three bytes of rights: everyone's, the group's, the owner's; a directory may have them and a file may not, and no byte may be 8
abbrev pub RightsAreInOrder : Type 0
RightsAreInOrder = privileges_of 501 500 (1 ∷ 3 ∷ 7 ∷ []) ≡ record { owner = 501; group = 500; everyone_rights = 1; group_rights = 3; owner_rights = 7 }

abbrev pub DirectoryHasRights : Type 0
DirectoryHasRights = has_fit_privileges true (privileges_of 501 500 (1 ∷ 3 ∷ 7 ∷ [])) ≡ true

abbrev pub FileHasNoRights : Type 0
FileHasNoRights = has_fit_privileges false (privileges_of 0 0 (0 ∷ 0 ∷ 1 ∷ [])) ≡ false

abbrev pub RightsAreThreeBits : Type 0
RightsAreThreeBits = has_fit_privileges true (privileges_of 501 500 (8 ∷ 3 ∷ 7 ∷ [])) ≡ false

-- a tail of attributes, creation date and backup date, and one byte less of it (AFP Reference, "FPSetFileParms")
abbrev pub some_tail : List ℕ
some_tail = 0x80 ∷ 0x21 ∷ 0x00 ∷ 0x00 ∷ 0x00 ∷ 0x05 ∷ 0x80 ∷ 0x00 ∷ 0x00 ∷ 0x00 ∷ []

abbrev pub TailIsRead : Type 0
TailIsRead = settings_in 0x0015 some_tail ≡ record { attributes = Some 0x8021; created = Some (pos 5); modified = None; backup = Some (negsuc 2147483647); finder = None; owner = None; group = None; rights = None }

abbrev pub TailIsLongEnough : Type 0
TailIsLongEnough = is_short_tail 0x0015 some_tail ≡ false

abbrev pub TailIsTooShort : Type 0
TailIsTooShort = is_short_tail 0x001d some_tail ≡ true

-- invisible and write inhibit are set beside system, and cleared beside delete inhibit; bits that a directory has not are let be (AFP
-- Reference, "File attributes")
abbrev pub AttributesAreSet : Type 0
AttributesAreSet = attributes_by false 0x8021 0x0004 ≡ 0x0025

abbrev pub AttributesAreCleared : Type 0
AttributesAreCleared = attributes_by false 0x0021 0x0125 ≡ 0x0104

abbrev pub AttributesAreMasked : Type 0
AttributesAreMasked = attributes_by true 0xffff 0x0000 ≡ 0x01c5
