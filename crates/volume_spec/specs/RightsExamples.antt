-- Worked examples of owners and rights (values worked by hand).
use Rattle.std.specs.Prelude.{◌≡◌, ℕ, true, false, List, [], ◌∷◌, Some, Ok, Err}
use Rattle.afp_base.specs.declared.code.Code.{Code}
use Rattle.afp_base.specs.declared.code.Code.TheVariants.{AccessDenied}
use Rattle.afp_names.specs.Path.{PathValue}
use Rattle.afp_names.specs.declared.path.Step.{Step}
use Rattle.afp_names.specs.declared.path.Step.TheVariants.{Down}
use Rattle.volume_spec.specs.CreateDir.{create_dir_refusal}
use Rattle.volume_spec.specs.Rights.{is_closed}
use Rattle.volume_spec.specs.Walk.{walk_from}
use Rattle.volume_spec.specs.NodeValues.{told_rights}
use Rattle.volume_spec.specs.SetFileDirParms.{set_dir_parms_refusal, settings_in, with_settings}
use Rattle.volume_spec.specs.VolumeState.{Privileges, Row, VolumeState, fresh_volume, guest, new_row, open_to_all}
use Rattle.volume_spec.specs.WorkedExamples.{share}

-- a user, and the path `x`
abbrev pub ann : ℕ
ann = 501

abbrev pub path_x : PathValue
path_x = record { kind = 3; steps = Down (0x78 ∷ []) ∷ [] }

-- a new directory of the user: all have all rights, and the user is told that it is hers
abbrev pub NewIsTold : Type 0
NewIsTold = told_rights (open_to_all ann) ann ≡ 0x87070707

-- a directory that is its owner's alone, told to another
abbrev pub own_alone : Privileges
own_alone = record { owner = ann; group = 500; everyone_rights = 0; group_rights = 0; owner_rights = 7 }

abbrev pub OthersAreTold : Type 0
OthersAreTold = told_rights own_alone guest ≡ 0x00000007

-- a volume with the directory `d` of the user, of which she took all rights but her own
abbrev pub own_d : Row
own_d = record (new_row true ann 17 2 (0x64 ∷ []) 100) { privileges = own_alone }

abbrev pub with_own_d : VolumeState
with_own_d = record (fresh_volume share 100) { next_id = 18; rows = new_row true guest 2 1 share 100 ∷ own_d ∷ [] }

-- so FPSetDirParms by her leaves it
abbrev pub OwnerTakes : Type 0
OwnerTakes = with_settings (settings_in 0x1000 (0 ∷ 0 ∷ 0 ∷ 7 ∷ [])) (new_row true ann 17 2 (0x64 ∷ []) 100) ≡ own_d

-- another user makes nothing in it, and changes nothing of it
abbrev pub OthersAreDenied : Type 0
OthersAreDenied = create_dir_refusal with_own_d guest 17 path_x ≡ Some AccessDenied

abbrev pub OthersSetNothing : Type 0
OthersSetNothing = set_dir_parms_refusal with_own_d guest 17 0x1000 (record { kind = 3; steps = [] }) (0 ∷ 0 ∷ 0 ∷ 7 ∷ []) ≡ Some AccessDenied

-- no step leads down from a directory that a user may not search, whatever is below it; where a user may search each directory from which a
-- step leads down, rights change nothing of a walk
abbrev pub ClosedIsDenied : Type 0
ClosedIsDenied = (rows : List Row) (user kind : ℕ) (missing : Code) (name : List ℕ) (steps : List Step) (here : ℕ) → is_closed rows user here ≡ true → walk_from rows user kind missing (Down name ∷ steps) here ≡ Err AccessDenied

abbrev pub RightsOnlyDeny : Type 0
RightsOnlyDeny = (rows : List Row) (user other kind : ℕ) (missing : Code) (steps : List Step) (here id : ℕ) → ((dir : ℕ) → is_closed rows other dir ≡ false) → walk_from rows user kind missing steps here ≡ Ok id → walk_from rows other kind missing steps here ≡ Ok id
