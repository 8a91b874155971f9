-- Worked examples of the calls that exchange files and tell of ids, and of those on the desktop database: requests one after another, with what each is
-- told (values worked by hand).
use Rattle.std.specs.Prelude.{◌≡◌, ℕ, pos, List, [], ◌∷◌, Some, None}
use Rattle.afp_base.specs.declared.code.Code.TheVariants.{BadIDErr, BitmapErr, DenyConflict, IDNotFound, ItemNotFound, ObjectTypeErr, Ok, ParamErr}
use Rattle.volume_spec.specs.Edit.{Exchanges}
use Rattle.volume_spec.specs.WorkedCalls.{creator, first_file, kind, second_file, volume}
use Rattle.afp_serial.specs.Appls.{get_appl_row}
use Rattle.afp_serial.specs.ExchangeFiles.{exchanging}
use Rattle.afp_serial.specs.FileIds.{delete_id_row, resolve_id_row}
use Rattle.afp_serial.specs.Fork.{get_fork_parms_row}
use Rattle.afp_serial.specs.ForkBytes.{read_row}
use Rattle.afp_serial.specs.ForkExamples.{asked_as, first, held, opening, second, some_house, tells}
use Rattle.afp_serial.specs.Icons.{add_icon_row, get_icon_info_row, get_icon_row}
use Rattle.afp_serial.specs.OnVolume.{done_on}
use Rattle.afp_serial.specs.OpenDT.{close_dt_row, open_dt_row}
use Rattle.afp_serial.specs.VolumeRows.{with_edits}
use Rattle.afp_serial.specs.World.{CallRow, volume_at, with_empty_reply, World, OpenFork, start_world}

-- two sessions on the worked volume: in its root are the file `a` of id 17, which is filed, the file `b` of id 18, and the directory `d` of id 19
abbrev pub desk_world : List OpenFork → World
desk_world opens = record (start_world some_house 100 (volume ∷ [])) { next_link = 3; sessions = first ∷ second ∷ []; opens = opens }

-- the row of FPExchangeFiles, of `a` and `b` that were found
abbrev pub exchanged : CallRow
exchanged = record {
  refusals = λ w s. [];
  effect = λ w s. exchanging 1 (Some (record { first = 17; second = 18 })) (done_on (volume_at w.volumes 1) w (λ v. with_empty_reply (with_edits w 1 v (Exchanges 17 18 ∷ []))));
  committed = λ w s. None;
}

-- an open fork goes with its bytes
abbrev pub ForksGoAlong : Type 0
ForksGoAlong =
    tells (desk_world (held 1 1 0x0001 ∷ []))
    ((first, read_row 1 (pos 0) 2 0 0)
    ∷ (first, get_fork_parms_row 1 0x0100)
    ∷ (first, exchanged)
    ∷ (first, read_row 1 (pos 0) 2 0 0)
    ∷ (first, get_fork_parms_row 1 0x0100)
    ∷ [])
    ≡ (Ok, 0x01 ∷ 0x02 ∷ [])
    ∷ (Ok, 0x01 ∷ 0x00 ∷ 0x00 ∷ 0x00 ∷ 0x00 ∷ 0x11 ∷ [])
    ∷ (Ok, [])
    ∷ (Ok, 0x01 ∷ 0x02 ∷ [])
    ∷ (Ok, 0x01 ∷ 0x00 ∷ 0x00 ∷ 0x00 ∷ 0x00 ∷ 0x12 ∷ [])
    ∷ []

-- and denies there what it denied
abbrev pub DenialsGoAlong : Type 0
DenialsGoAlong =
    tells (desk_world (held 1 1 0x0021 ∷ [])) ((first, exchanged) ∷ (second, opening (asked_as 0x0002) second_file) ∷ (second, opening (asked_as 0x0002) first_file) ∷ [])
    ≡ (Ok, [])
    ∷ (DenyConflict, 0x01 ∷ 0x00 ∷ 0x00 ∷ 0x00 ∷ 0x00 ∷ 0x00 ∷ 0x00 ∷ 0x12 ∷ [])
    ∷ (Ok, 0x01 ∷ 0x00 ∷ 0x00 ∷ 0x02 ∷ 0x00 ∷ 0x00 ∷ 0x00 ∷ 0x11 ∷ [])
    ∷ []

-- FPDeleteID and FPResolveID
abbrev pub IdsAreTold : Type 0
IdsAreTold =
    tells (desk_world [])
    ((first, delete_id_row 1 17)
    ∷ (first, delete_id_row 1 17)
    ∷ (first, delete_id_row 1 16)
    ∷ (first, resolve_id_row 1 17 0x2002)
    ∷ (first, resolve_id_row 1 99 0x2002)
    ∷ (first, resolve_id_row 1 3 0x2002)
    ∷ (first, resolve_id_row 1 19 0x2002)
    ∷ [])
    ≡ (Ok, [])
    ∷ (IDNotFound, [])
    ∷ (BadIDErr, [])
    ∷ (Ok, 0x20 ∷ 0x02 ∷ 0x00 ∷ 0x00 ∷ 0x00 ∷ 0x02 ∷ 0x00 ∷ 0x0a ∷ 0x00 ∷ 0x00 ∷ 0x00 ∷ 0x00 ∷ 0x00 ∷ 0x00 ∷ 0x00 ∷ 0x00 ∷ 0x00 ∷ 0x01 ∷ 0x61 ∷ 0x00 ∷ [])
    ∷ (IDNotFound, [])
    ∷ (BadIDErr, [])
    ∷ (ObjectTypeErr, [])
    ∷ []

-- FPOpenDT and FPCloseDT
abbrev pub DesksAreOpen : Type 0
DesksAreOpen =
    tells (desk_world []) ((first, open_dt_row 1) ∷ (first, close_dt_row 1) ∷ (first, open_dt_row 2) ∷ (first, close_dt_row 2) ∷ [])
    ≡ (Ok, 0x00 ∷ 0x01 ∷ [])
    ∷ (Ok, [])
    ∷ (ParamErr, [])
    ∷ (ParamErr, [])
    ∷ []

-- FPAddIcon, FPGetIcon and FPGetIconInfo
abbrev pub other_kind : List ℕ
other_kind = 0x54 ∷ 0x45 ∷ 0x58 ∷ 0x54 ∷ []

abbrev pub other_creator : List ℕ
other_creator = 0x41 ∷ 0x42 ∷ 0x43 ∷ 0x44 ∷ []

abbrev pub IconsAreTold : Type 0
IconsAreTold =
    tells (desk_world [])
    ((first, add_icon_row 1 other_creator other_kind 1 7 (0xaa ∷ 0xbb ∷ []))
    ∷ (first, get_icon_row 1 other_creator other_kind 1 0)
    ∷ (first, get_icon_row 1 other_creator other_kind 1 9)
    ∷ (first, get_icon_info_row 1 other_creator 0)
    ∷ (first, get_icon_info_row 1 other_creator 1)
    ∷ (first, get_icon_info_row 1 other_creator 2)
    ∷ (first, get_icon_row 1 creator kind 1 2)
    ∷ [])
    ≡ (Ok, [])
    ∷ (Ok, [])
    ∷ (Ok, 0xaa ∷ 0xbb ∷ [])
    ∷ (ParamErr, [])
    ∷ (Ok, 0x00 ∷ 0x00 ∷ 0x00 ∷ 0x07 ∷ 0x54 ∷ 0x45 ∷ 0x58 ∷ 0x54 ∷ 0x01 ∷ 0x00 ∷ 0x00 ∷ 0x02 ∷ [])
    ∷ (ItemNotFound, [])
    ∷ (Ok, 9 ∷ 8 ∷ [])
    ∷ []

-- FPGetAPPL, where the index 0 counts as 1
abbrev pub ApplsAreTold : Type 0
ApplsAreTold =
    tells (desk_world []) ((first, get_appl_row 1 creator 0 0x0100) ∷ (first, get_appl_row 1 creator 1 0x0100) ∷ (first, get_appl_row 1 creator 2 0x0100) ∷ (first, get_appl_row 1 creator 1 0x1000) ∷ [])
    ≡ (Ok, 0x01 ∷ 0x00 ∷ 0x00 ∷ 0x00 ∷ 0x00 ∷ 0x03 ∷ 0x00 ∷ 0x00 ∷ 0x00 ∷ 0x11 ∷ [])
    ∷ (Ok, 0x01 ∷ 0x00 ∷ 0x00 ∷ 0x00 ∷ 0x00 ∷ 0x03 ∷ 0x00 ∷ 0x00 ∷ 0x00 ∷ 0x11 ∷ [])
    ∷ (ItemNotFound, [])
    ∷ (BitmapErr, [])
    ∷ []
