-- Worked cases of the calls that copy, exchange, file, and change the desktop database (values worked by hand).
use Rattle.std.specs.Prelude.{◌≡◌, ℕ, ◌/◌, ◌%◌, pos, Bool, true, false, List, [], ◌∷◌, Option, Some, None, map, replicate}
use Rattle.std.specs.List.{range_with_len}
use Rattle.afp_base.specs.declared.code.Code.{Code}
use Rattle.afp_base.specs.declared.code.Code.TheVariants.{BadIDErr, BitmapErr, DenyConflict, DirNotEmpty, DiskFull, FileBusy, IDExists, IDNotFound, ItemNotFound, ObjectExists, ObjectNotFound, ObjectTypeErr, ParamErr, SameObjectErr}
use Rattle.afp_names.specs.Path.{PathValue, utf8_names}
use Rattle.afp_names.specs.declared.path.Step.TheVariants.{Down}
use Rattle.volume_spec.specs.Appls.{get_appl_mapping}
use Rattle.volume_spec.specs.CopyFile.{Source}
use Rattle.volume_spec.specs.Desktop.{icon_of}
use Rattle.volume_spec.specs.Edit.{after_call}
use Rattle.volume_spec.specs.FileIds.{resolve_id_refusal}
use Rattle.volume_spec.specs.Icons.{get_icon_bits, get_icon_info_icon, get_icon_info_refusal, get_icon_refusal}
use Rattle.volume_spec.specs.SoundVolume.{most_appls, most_icons}
use Rattle.volume_spec.specs.VolumeCalls.{VolumeCall, CreateFile, Delete, Rename, MoveAndRename, CopyFile, ExchangeFiles, CreateID, DeleteID, AddIcon, AddAPPL, RemoveAPPL, AddComment, RemoveComment, call_edits, volume_refusal}
use Rattle.volume_spec.specs.VolumeState.{Appl, Icon, Row, VolumeState, fresh_volume, new_row, never}

-- the names of the nodes, `a`, `b`, `d` and `S`, the first in upper case, and a name that is free
abbrev pub a_name : List ℕ
a_name = 0x61 ∷ []

abbrev pub b_name : List ℕ
b_name = 0x62 ∷ []

abbrev pub d_name : List ℕ
d_name = 0x64 ∷ []

abbrev pub s_name : List ℕ
s_name = 0x53 ∷ []

abbrev pub upper_name : List ℕ
upper_name = 0x41 ∷ []

abbrev pub free_name : List ℕ
free_name = 0x63 ∷ []

-- a path in UTF-8 that goes down to a name, and one that goes nowhere
abbrev pub down_to : List ℕ → PathValue
down_to name = record { kind = utf8_names; steps = Down name ∷ [] }

abbrev pub here : PathValue
here = record { kind = utf8_names; steps = [] }

-- the root; a file with bytes in its data fork, that was backed up and is filed, one with bytes in its resource fork, and a directory
abbrev pub root : Row
root = new_row true 500 2 1 s_name 0

abbrev pub first_file : Row
first_file = record (new_row false 500 17 2 a_name 5) { modified = pos 7; backup = pos 6; filed = true; data_fork = 1 ∷ 2 ∷ [] }

abbrev pub second_file : Row
second_file = record (new_row false 500 18 2 b_name 5) { modified = pos 9; resource_fork = 3 ∷ [] }

abbrev pub folder : Row
folder = new_row true 500 19 2 d_name 0

abbrev pub creator : List ℕ
creator = 1 ∷ 1 ∷ 1 ∷ 1 ∷ []

abbrev pub kind : List ℕ
kind = 2 ∷ 2 ∷ 2 ∷ 2 ∷ []

abbrev pub icon : Icon
icon = icon_of creator kind 1 7 (9 ∷ 8 ∷ 7 ∷ [])

abbrev pub mapping : Appl
mapping = record { creator = creator; node = 17; tag = 3 }

-- a volume with these
abbrev pub volume : VolumeState
volume = record {
  name = s_name;
  created = pos 0;
  modified = pos 0;
  backup = pos 0;
  next_id = 20;
  rows = root ∷ first_file ∷ second_file ∷ folder ∷ [];
  comments = [];
  icons = icon ∷ [];
  appls = mapping ∷ [];
}

-- why a call is refused where no fork is open, and the volume after it, where it is made at 30 seconds
abbrev pub refused : VolumeState → VolumeCall → Option Code
refused v call = volume_refusal v 500 [] call

abbrev pub after : VolumeState → VolumeCall → VolumeState
after v call = after_call v 30 (call_edits v 500 30 call)

-- the volume, changed at 30 seconds
abbrev pub changed : VolumeState
changed = record volume { modified = pos 30 }

-- FPCreateFile and FPDelete: an id that was drawn is not drawn again
abbrev pub dated_root : Row
dated_root = record root { modified = pos 30 }

abbrev pub with_file : VolumeState
with_file = record changed { next_id = 21; rows = dated_root ∷ first_file ∷ second_file ∷ folder ∷ new_row false 500 20 2 free_name 30 ∷ [] }

abbrev pub without_file : VolumeState
without_file = record changed { next_id = 21; rows = dated_root ∷ first_file ∷ second_file ∷ folder ∷ [] }

abbrev pub FileIsCreated : Type 0
FileIsCreated = after volume (CreateFile false 2 (down_to free_name)) ≡ with_file

abbrev pub FileIsDeleted : Type 0
FileIsDeleted = after with_file (Delete 2 (down_to free_name)) ≡ without_file

abbrev pub NextIdIsDrawn : Type 0
NextIdIsDrawn =
    after without_file (CreateFile false 2 (down_to free_name))
    ≡ record without_file { next_id = 22; rows = dated_root ∷ first_file ∷ second_file ∷ folder ∷ new_row false 500 21 2 free_name 30 ∷ [] }

-- FPRename, and FPMoveAndRename with no new name: the file has its id and its dates
abbrev pub with_new_name : VolumeState
with_new_name = record changed { rows = dated_root ∷ record first_file { name = free_name } ∷ second_file ∷ folder ∷ [] }

abbrev pub moved : VolumeState
moved = record changed { rows = dated_root ∷ record first_file { parent = 19; name = free_name } ∷ second_file ∷ record folder { modified = pos 30 } ∷ [] }

abbrev pub FileIsRenamed : Type 0
FileIsRenamed = after volume (Rename 2 (down_to a_name) (down_to free_name)) ≡ with_new_name

abbrev pub FileIsMoved : Type 0
FileIsMoved = after with_new_name (MoveAndRename 2 (down_to free_name) 2 (down_to d_name) here) ≡ moved

-- FPDelete: a file with an open fork, a directory, and the same with a child
abbrev pub DeletesAreRefused : Type 0
DeletesAreRefused =
    (volume_refusal volume 500 (record { node = 17; resource = true } ∷ []) (Delete 2 (down_to a_name)) ∷ refused volume (Delete 2 (down_to d_name)) ∷ refused moved (Delete 2 (down_to d_name)) ∷ [])
    ≡ (Some FileBusy ∷ None ∷ Some DirNotEmpty ∷ [])

-- FPCreateID: a file that is not filed is filed, and nothing else changes
abbrev pub filed : VolumeState
filed = record changed { rows = root ∷ first_file ∷ record second_file { filed = true } ∷ folder ∷ [] }

abbrev pub FileIsFiled : Type 0
FileIsFiled = after volume (CreateID 2 (down_to b_name)) ≡ filed

-- FPCreateID: a file that is not filed, the same once it is, a directory, a name that is not there
abbrev pub IdsAreCreated : Type 0
IdsAreCreated =
    (refused volume (CreateID 2 (down_to b_name))
    ∷ refused filed (CreateID 2 (down_to b_name))
    ∷ refused volume (CreateID 2 (down_to d_name))
    ∷ refused volume (CreateID 2 (down_to free_name))
    ∷ [])
    ≡ (None ∷ Some IDExists ∷ Some ObjectTypeErr ∷ Some ObjectNotFound ∷ [])

-- FPDeleteID: a file that is filed is not any more, and nothing else changes
abbrev pub unfiled : VolumeState
unfiled = record changed { rows = root ∷ record first_file { filed = false } ∷ second_file ∷ folder ∷ [] }

abbrev pub IdIsDeleted : Type 0
IdIsDeleted = after volume (DeleteID 17) ≡ unfiled

-- FPDeleteID: an id below 17, a directory's, that of a file that is not filed, that of one that is; and the same once it is not
abbrev pub IdsAreDeleted : Type 0
IdsAreDeleted =
    (refused volume (DeleteID 16) ∷ refused volume (DeleteID 19) ∷ refused volume (DeleteID 18) ∷ refused volume (DeleteID 17) ∷ refused unfiled (DeleteID 17) ∷ [])
    ≡ (Some BadIDErr ∷ Some IDNotFound ∷ Some IDNotFound ∷ None ∷ Some IDNotFound ∷ [])

-- FPResolveID: bits come first; an id below 17 that is there, one that is not there, a directory's, that of a file that is not filed
abbrev pub IdsAreResolved : Type 0
IdsAreResolved =
    (resolve_id_refusal volume 500 2 0x8000 ∷ resolve_id_refusal volume 500 2 0 ∷ resolve_id_refusal volume 500 99 0 ∷ resolve_id_refusal volume 500 19 0 ∷ resolve_id_refusal volume 500 18 0 ∷ [])
    ≡ (Some BitmapErr ∷ Some BadIDErr ∷ Some IDNotFound ∷ Some ObjectTypeErr ∷ None ∷ [])

-- FPExchangeFiles: forks and modified dates, and nothing else
abbrev pub FilesAreExchanged : Type 0
FilesAreExchanged =
    after volume (ExchangeFiles 2 (down_to a_name) 2 (down_to b_name))
    ≡ record changed {
      rows =
          root
          ∷ record first_file { modified = pos 9; data_fork = []; resource_fork = 3 ∷ [] }
          ∷ record second_file { modified = pos 7; data_fork = 1 ∷ 2 ∷ []; resource_fork = [] }
          ∷ folder
          ∷ [];
    }

-- FPExchangeFiles: two files, one file by two spellings of its name, a directory first and second, a name that is not there
abbrev pub ExchangesAreRefused : Type 0
ExchangesAreRefused =
    (refused volume (ExchangeFiles 2 (down_to a_name) 2 (down_to b_name))
    ∷ refused volume (ExchangeFiles 2 (down_to a_name) 2 (down_to upper_name))
    ∷ refused volume (ExchangeFiles 2 (down_to d_name) 2 (down_to a_name))
    ∷ refused volume (ExchangeFiles 2 (down_to a_name) 2 (down_to d_name))
    ∷ refused volume (ExchangeFiles 2 (down_to a_name) 2 (down_to free_name))
    ∷ [])
    ≡ (None ∷ Some SameObjectErr ∷ Some ObjectTypeErr ∷ Some ObjectTypeErr ∷ Some ObjectNotFound ∷ [])

-- the first file as what is copied, held or not
abbrev pub source : Bool → Source
source held = record { file = first_file; held = held; denied = false }

-- FPCopyFile: the copy has the next id and the file's dates, was never backed up and is not filed; the modified date of its directory is set, and
-- nothing else of the other nodes
abbrev pub copied : VolumeState
copied = record changed {
  next_id = 21;
  rows =
      root
      ∷ first_file
      ∷ second_file
      ∷ record folder { modified = pos 30 }
      ∷ record first_file { id = 20; parent = 19; name = free_name; backup = never; filed = false }
      ∷ [];
}

abbrev pub FileIsCopied : Type 0
FileIsCopied = after volume (CopyFile (source false) 2 (down_to d_name) (down_to free_name)) ≡ copied

-- FPCopyFile to the root of a volume that nobody has used, with no new name
abbrev pub other_volume : VolumeState
other_volume = fresh_volume s_name 5

abbrev pub CopyKeepsItsName : Type 0
CopyKeepsItsName =
    after other_volume (CopyFile (source false) 2 here here)
    ≡ record other_volume {
      modified = pos 30;
      next_id = 18;
      rows = record (new_row true 500 2 1 s_name 5) { modified = pos 30 } ∷ record first_file { backup = never; filed = false } ∷ [];
    }

-- FPCopyFile: a free name, the same where an open fork holds the file, a name that is taken before that, a file for a directory, a name that is
-- not there; and the first once more
abbrev pub CopiesAreRefused : Type 0
CopiesAreRefused =
    (refused volume (CopyFile (source false) 2 (down_to d_name) (down_to free_name))
    ∷ refused volume (CopyFile (source true) 2 (down_to d_name) (down_to free_name))
    ∷ refused volume (CopyFile (source true) 2 here (down_to b_name))
    ∷ refused volume (CopyFile (source false) 2 (down_to b_name) here)
    ∷ refused volume (CopyFile (source false) 2 (down_to free_name) here)
    ∷ refused copied (CopyFile (source false) 2 (down_to d_name) (down_to free_name))
    ∷ [])
    ≡ (None ∷ Some DenyConflict ∷ Some ObjectExists ∷ Some ObjectTypeErr ∷ Some ObjectNotFound ∷ Some ObjectExists ∷ [])

-- FPAddIcon: an icon of another icon type is put behind the first, one of the same is put in its place
abbrev pub IconIsPut : Type 0
IconIsPut = after volume (AddIcon (icon_of creator kind 2 8 (5 ∷ []))) ≡ record changed { icons = icon ∷ icon_of creator kind 2 8 (5 ∷ []) ∷ [] }

abbrev pub IconIsReplaced : Type 0
IconIsReplaced = after volume (AddIcon (icon_of creator kind 1 8 (5 ∷ []))) ≡ record changed { icons = icon_of creator kind 1 8 (5 ∷ []) ∷ [] }

-- so many icons, each of another type
abbrev pub numbered : ℕ → List ℕ
numbered n = n / 256 ∷ n % 256 ∷ 0 ∷ 0 ∷ []

abbrev pub with_icons : ℕ → VolumeState
with_icons count = record volume { icons = map (λ n. icon_of creator (numbered n) 1 7 []) (range_with_len 0 count) }

-- FPAddIcon: one less than the most, the most and an icon of a new type, the most and one of a type that is there
abbrev pub IconsHaveRoom : Type 0
IconsHaveRoom =
    (refused (with_icons 1023) (AddIcon icon) ∷ refused (with_icons most_icons) (AddIcon icon) ∷ refused (with_icons most_icons) (AddIcon (icon_of creator (numbered 1023) 1 9 [])) ∷ [])
    ≡ (None ∷ Some DiskFull ∷ None ∷ [])

-- FPGetIcon: no byte, the first bytes, or all; FPGetIconInfo: the first icon of the creator
abbrev pub IconsAreGiven : Type 0
IconsAreGiven = (get_icon_bits volume creator kind 1 0 ∷ get_icon_bits volume creator kind 1 2 ∷ get_icon_bits volume creator kind 1 99 ∷ []) ≡ (Some [] ∷ Some (9 ∷ 8 ∷ []) ∷ Some (9 ∷ 8 ∷ 7 ∷ []) ∷ [])

abbrev pub FirstIconIsTold : Type 0
FirstIconIsTold = get_icon_info_icon volume creator 1 ≡ Some icon

-- another icon type; index 0; an index behind the last
abbrev pub IconsAreRefused : Type 0
IconsAreRefused = (get_icon_refusal volume creator kind 2 ∷ get_icon_info_refusal volume creator 0 ∷ get_icon_info_refusal volume creator 2 ∷ []) ≡ (Some ItemNotFound ∷ Some ParamErr ∷ Some ItemNotFound ∷ [])

-- FPAddAPPL: the mapping of another file is put behind the first, that of the same gets another tag
abbrev pub MappingIsPut : Type 0
MappingIsPut = after volume (AddAPPL 2 creator 4 (down_to b_name)) ≡ record changed { appls = mapping ∷ (record { creator = creator; node = 18; tag = 4 }) ∷ [] }

abbrev pub MappingIsReplaced : Type 0
MappingIsReplaced = after volume (AddAPPL 2 creator 4 (down_to a_name)) ≡ record changed { appls = record mapping { tag = 4 } ∷ [] }

-- FPRemoveAPPL: the mapping goes
abbrev pub unmapped : VolumeState
unmapped = record changed { appls = [] }

abbrev pub MappingIsTaken : Type 0
MappingIsTaken = after volume (RemoveAPPL 2 creator (down_to a_name)) ≡ unmapped

-- FPAddAPPL of a directory; FPRemoveAPPL of a mapping, of the same once it has gone, of a file without one, of a directory
abbrev pub MappingsAreRefused : Type 0
MappingsAreRefused =
    (refused volume (AddAPPL 2 creator 4 (down_to d_name))
    ∷ refused volume (RemoveAPPL 2 creator (down_to a_name))
    ∷ refused unmapped (RemoveAPPL 2 creator (down_to a_name))
    ∷ refused volume (RemoveAPPL 2 creator (down_to b_name))
    ∷ refused volume (RemoveAPPL 2 creator (down_to d_name))
    ∷ [])
    ≡ (Some ObjectTypeErr ∷ None ∷ Some ItemNotFound ∷ Some ItemNotFound ∷ Some ObjectTypeErr ∷ [])

-- so many mappings to a file, each of another creator
abbrev pub with_mappings : ℕ → VolumeState
with_mappings count = record volume { appls = map (λ n. record { creator = numbered n; node = 17; tag = 3 }) (range_with_len 0 count) }

-- FPAddAPPL: one less than the most, the most and a new creator, the most and a creator that is there
abbrev pub MappingsHaveRoom : Type 0
MappingsHaveRoom =
    (refused (with_mappings 4095) (AddAPPL 2 creator 4 (down_to a_name)) ∷ refused (with_mappings most_appls) (AddAPPL 2 creator 4 (down_to a_name)) ∷ refused (with_mappings most_appls) (AddAPPL 2 (numbered 4095) 4 (down_to a_name)) ∷ [])
    ≡ (None ∷ Some DiskFull ∷ None ∷ [])

-- FPGetAPPL: index 0 counts as 1, and there is no second
abbrev pub MappingsAreTold : Type 0
MappingsAreTold = (get_appl_mapping volume creator 0 ∷ get_appl_mapping volume creator 1 ∷ get_appl_mapping volume creator 2 ∷ []) ≡ (Some mapping ∷ Some mapping ∷ None ∷ [])

-- FPAddComment: so many bytes `a` as the first file's comment; 199 are kept, and of 200 the first 199
abbrev pub commented : ℕ → VolumeState
commented count = record changed { comments = (record { node = 17; text = replicate count 0x61 }) ∷ [] }

abbrev pub CommentIsPut : Type 0
CommentIsPut = after volume (AddComment 2 (down_to a_name) (replicate 199 0x61)) ≡ commented 199

abbrev pub CommentIsCut : Type 0
CommentIsCut = after volume (AddComment 2 (down_to a_name) (replicate 200 0x61)) ≡ commented 199

-- FPAddComment: another comment in place of one
abbrev pub CommentIsReplaced : Type 0
CommentIsReplaced = after (commented 3) (AddComment 2 (down_to a_name) (0x61 ∷ [])) ≡ commented 1

-- FPAddComment of no byte, and FPRemoveComment: the comment goes
abbrev pub EmptyCommentTakes : Type 0
EmptyCommentTakes = after (commented 3) (AddComment 2 (down_to a_name) []) ≡ changed

abbrev pub CommentIsTaken : Type 0
CommentIsTaken = after (commented 3) (RemoveComment 2 (down_to a_name)) ≡ changed

-- FPAddComment of no byte where there is no comment: no edit
abbrev pub EmptyCommentIsNone : Type 0
EmptyCommentIsNone = call_edits volume 500 30 (AddComment 2 (down_to a_name) []) ≡ []

-- FPAddComment on a directory, and where no node is; FPRemoveComment of a comment, of the same once it has gone
abbrev pub CommentsAreRefused : Type 0
CommentsAreRefused =
    (refused volume (AddComment 2 (down_to d_name) (0x61 ∷ []))
    ∷ refused volume (AddComment 2 (down_to free_name) (0x61 ∷ []))
    ∷ refused (commented 3) (RemoveComment 2 (down_to a_name))
    ∷ refused changed (RemoveComment 2 (down_to a_name))
    ∷ [])
    ≡ (None ∷ Some ObjectNotFound ∷ None ∷ Some ItemNotFound ∷ [])
