-- The ranges of the numbers that edits and calls bring to a volume (AFP Reference, "File and directory parameters", "Date and time").
use Rattle.std.specs.Prelude.{◌≡◌, ℕ, pos, Bool, true, ◌&&◌, List, option_map, unwrap_or, None}
use Rattle.std.specs.List.{list_all}
use Rattle.volume_spec.specs.Edit.{Edit, Comes, Renames, Moves, Sets, Writes, PutsIcon, PutsAppl, Comments, BacksUp, edited, after_call}
use Rattle.volume_spec.specs.EditLaws.{MayEdit, MayEditAll}
use Rattle.volume_spec.specs.SetFileDirParms.{Settings}
use Rattle.volume_spec.specs.Shared.{Opened}
use Rattle.volume_spec.specs.SoundVolume.{IsSoundVolume}
use Rattle.volume_spec.specs.TypedVolume.{are_bytes, is_date, is_long, is_typed_appl, is_typed_icon, is_typed_row, is_typed_volume}
use Rattle.volume_spec.specs.VolumeCalls.{VolumeCall, SetFileParms, SetDirParms, SetFileDirParms, SetVolParms, CopyFile, AddIcon, AddAPPL, AddComment, call_edits, is_formed_call, volume_refusal}
use Rattle.volume_spec.specs.VolumeState.{VolumeState}

-- dates, Finder info, owner and group, as far as they are set
abbrev pub is_typed_settings : Settings → Bool
is_typed_settings s =
    unwrap_or (option_map is_date s.created) true
    && (unwrap_or (option_map is_date s.modified) true
    && (unwrap_or (option_map is_date s.backup) true
    && (unwrap_or (option_map are_bytes s.finder) true
    && (unwrap_or (option_map is_long s.owner) true
    && unwrap_or (option_map is_long s.group) true))))

-- what an edit brings
abbrev pub is_typed_edit : Edit → Bool
is_typed_edit (Comes row) = is_typed_row row
is_typed_edit (Renames id name) = are_bytes name
is_typed_edit (Moves id parent name) = is_long parent && are_bytes name
is_typed_edit (Sets id settings) = is_typed_settings settings
is_typed_edit (Writes now id resource bytes) = is_date (pos now) && are_bytes bytes
is_typed_edit (PutsIcon icon) = is_typed_icon icon
is_typed_edit (PutsAppl appl) = is_typed_appl appl
is_typed_edit (Comments node text) = is_long node && are_bytes text
is_typed_edit (BacksUp date) = is_date date
is_typed_edit e = true

-- what a call brings: bytes of a tail, of a creator and of a comment; a file that is copied; an icon
abbrev pub is_typed_volume_call : VolumeCall → Bool
is_typed_volume_call (SetFileParms dir bits path tail) = are_bytes tail
is_typed_volume_call (SetDirParms dir bits path tail) = are_bytes tail
is_typed_volume_call (SetFileDirParms dir bits path tail) = are_bytes tail
is_typed_volume_call (SetVolParms bits tail) = are_bytes tail
is_typed_volume_call (CopyFile source dir path new) = is_typed_row source.file
is_typed_volume_call (AddIcon icon) = is_typed_icon icon
is_typed_volume_call (AddAPPL dir creator tag path) = are_bytes creator && is_long tag
is_typed_volume_call (AddComment dir path text) = are_bytes text
is_typed_volume_call call = true

-- an edit that may be made keeps the numbers of a volume in their ranges, if it brings such; so does a call
abbrev pub EditKeepsTyped : Type 0
EditKeepsTyped = (v : VolumeState) (e : Edit) → MayEdit v e → is_typed_edit e ≡ true → is_typed_volume v ≡ true → is_typed_volume (edited v e) ≡ true

abbrev pub CallKeepsTyped : Type 0
CallKeepsTyped = (v : VolumeState) (now : ℕ) (edits : List Edit) → is_date (pos now) ≡ true → MayEditAll v edits → list_all is_typed_edit edits ≡ true → is_typed_volume v ≡ true → is_typed_volume (after_call v now edits) ≡ true

-- the edits of a call that is not refused bring no other numbers than the call, the moment and the volume have
abbrev pub CallsBringTyped : Type 0
CallsBringTyped = (v : VolumeState) (user : ℕ) (opens : List Opened) (now : ℕ) (call : VolumeCall) → is_long user ≡ true → is_date (pos now) ≡ true → is_typed_volume_call call ≡ true → is_formed_call call ≡ true → volume_refusal v user opens call ≡ None → IsSoundVolume v → is_typed_volume v ≡ true
    → list_all is_typed_edit (call_edits v user now call) ≡ true
