-- The laws of edits: what each needs, and what each leaves as it should be (this profile).
use Rattle.std.specs.Prelude.{◌≡◌, ℕ, ◌+◌, ◌<◌, ◌≤◌, ◌==◌, Bool, true, false, List, [], ◌∷◌, length, Some, None}
use Rattle.afp_base.specs.Limits.{most_fork_bytes}
use Rattle.afp_names.specs.Name.{name_fault, name_key}
use Rattle.volume_spec.specs.Desktop.{has_no_appl_room, has_no_icon_room, is_appl}
use Rattle.volume_spec.specs.Edit.{Edit, Comes, Goes, Renames, Moves, Sets, Files, Writes, Exchanges, PutsIcon, PutsAppl, TakesAppl, Comments, BacksUp, edited, after_call}
use Rattle.volume_spec.specs.Edits.{has_children, is_below, is_taken}
use Rattle.volume_spec.specs.ForkEffect.{fork_effect, fork_of, would_pass}
use Rattle.volume_spec.specs.Shared.{Opened, is_busy}
use Rattle.volume_spec.specs.SetFileDirParms.{are_fit_settings}
use Rattle.volume_spec.specs.SoundVolume.{fork_bytes, has_file, has_node, icon_key, is_formed, is_icon, last_next_id, most_nodes, row_bytes, IsSoundVolume}
use Rattle.volume_spec.specs.TreeSteps as tree
use Rattle.volume_spec.specs.TreeSteps.{TreeCall, tree_effect, tree_refusal}
use Rattle.volume_spec.specs.VolumeCalls.{VolumeCall, CreateDir, CreateFile, Delete, Rename, MoveAndRename, SetFileParms, SetDirParms, SetFileDirParms, SetVolParms, call_edits, is_formed_call, volume_refusal}
use Rattle.volume_spec.specs.VolumeState.{Appl, Icon, Row, VolumeState, root_id}
use Rattle.volume_spec.specs.Walk.{child_by_key, has_directory, row_at}

-- a node may come: its directory is there, its name is free in it, and there is room
pub record MayCome (v : VolumeState) (row : Row) : Type 0 where
  pub directory : has_directory v.rows row.parent ≡ true
  pub free : child_by_key v.rows row.parent (name_key row.name) ≡ None
  pub formed : is_formed row ≡ true
  pub few : length v.rows < most_nodes
  pub left : v.next_id < last_next_id
  pub bytes : fork_bytes v.rows + row_bytes row ≤ most_fork_bytes

-- a node may go: it is not the root, and has no children
pub record MayGo (v : VolumeState) (id : ℕ) : Type 0 where
  pub other : (id == root_id) ≡ false
  pub childless : has_children v.rows id ≡ false

-- a node may get another name in its directory
pub record MayRename (v : VolumeState) (id : ℕ) (name : List ℕ) : Type 0 where
  pub other : (id == root_id) ≡ false
  pub row : Row
  pub found : row_at v.rows id ≡ Some row
  pub free : is_taken v.rows id row.parent name ≡ false
  pub named : name_fault name ≡ None

-- a node may get another place: a directory that is there, and not it or below it
pub record MayMove (v : VolumeState) (id parent : ℕ) (name : List ℕ) : Type 0 where
  pub other : (id == root_id) ≡ false
  pub directory : has_directory v.rows parent ≡ true
  pub not_below : is_below v.rows (length v.rows) id parent ≡ false
  pub free : is_taken v.rows id parent name ≡ false
  pub named : name_fault name ≡ None

-- a fork of a file may have other bytes
pub record MayWrite (v : VolumeState) (id : ℕ) (resource : Bool) (bytes : List ℕ) : Type 0 where
  pub file : Row
  pub found : row_at v.rows id ≡ Some file
  pub is_file : file.dir ≡ false
  pub room : would_pass v (length (fork_of resource file)) (length bytes) ≡ false

-- two files may exchange their forks: they are not one
pub record MayExchange (v : VolumeState) (a b : ℕ) : Type 0 where
  pub apart : (a == b) ≡ false
  pub first : Row
  pub second : Row
  pub first_found : row_at v.rows a ≡ Some first
  pub second_found : row_at v.rows b ≡ Some second
  pub first_file : first.dir ≡ false
  pub second_file : second.dir ≡ false

-- an icon may be put: there is room, or one under its key
pub record MayPutIcon (v : VolumeState) (icon : Icon) : Type 0 where
  pub formed : is_icon icon ≡ true
  pub room : has_no_icon_room (icon_key icon) v.icons ≡ false

-- a mapping may be put: it is to a file, and there is room, or one of its creator and file
pub record MayPutAppl (v : VolumeState) (appl : Appl) : Type 0 where
  pub formed : is_appl appl ≡ true
  pub there : has_file v.rows appl.node ≡ true
  pub room : has_no_appl_room appl.creator appl.node v.appls ≡ false

-- an edit may be made
abbrev pub MayEdit : VolumeState → Edit → Type 0
MayEdit v (Comes row) = MayCome v row
MayEdit v (Goes id) = MayGo v id
MayEdit v (Renames id name) = MayRename v id name
MayEdit v (Moves id parent name) = MayMove v id parent name
MayEdit v (Sets id settings) = are_fit_settings settings ≡ true
MayEdit v (Files id filed) = has_file v.rows id ≡ true
MayEdit v (Writes now id resource bytes) = MayWrite v id resource bytes
MayEdit v (Exchanges a b) = MayExchange v a b
MayEdit v (PutsIcon icon) = MayPutIcon v icon
MayEdit v (PutsAppl appl) = MayPutAppl v appl
MayEdit v (TakesAppl creator node) = Unit {0}
MayEdit v (Comments node text) = has_node v.rows node ≡ true
MayEdit v (BacksUp date) = Unit {0}

-- each of these edits may be made where it comes
abbrev pub MayEditAll : VolumeState → List Edit → Type 0
MayEditAll v [] = Unit {0}
MayEditAll v (e ∷ es) = MayEdit v e × MayEditAll (edited v e) es

-- an edit that may be made keeps a volume sound
abbrev pub EditKeepsSound : Type 0
EditKeepsSound = (v : VolumeState) (e : Edit) → MayEdit v e → IsSoundVolume v → IsSoundVolume (edited v e)

-- so does a call whose edits may be made
abbrev pub CallKeepsSound : Type 0
CallKeepsSound = (v : VolumeState) (now : ℕ) (edits : List Edit) → MayEditAll v edits → IsSoundVolume v → IsSoundVolume (after_call v now edits)

-- the nine calls of the tree as calls on a volume
abbrev pub volume_call : TreeCall → VolumeCall
volume_call (tree.CreateDir dir path) = CreateDir dir path
volume_call (tree.CreateFile hard dir path) = CreateFile hard dir path
volume_call (tree.Delete dir path) = Delete dir path
volume_call (tree.Rename dir path new) = Rename dir path new
volume_call (tree.MoveAndRename dir path to_dir to_path new) = MoveAndRename dir path to_dir to_path new
volume_call (tree.SetFileParms dir bits path tail) = SetFileParms dir bits path tail
volume_call (tree.SetDirParms dir bits path tail) = SetDirParms dir bits path tail
volume_call (tree.SetFileDirParms dir bits path tail) = SetFileDirParms dir bits path tail
volume_call (tree.SetVolParms bits tail) = SetVolParms bits tail

-- their effects are their edits
abbrev pub EffectsAreEdits : Type 0
EffectsAreEdits = (v : VolumeState) (user now : ℕ) (call : TreeCall) → after_call v now (call_edits v user now (volume_call call)) ≡ tree_effect v user now call

-- and they are refused where the calls on a volume are
abbrev pub RefusalsAreThose : Type 0
RefusalsAreThose = (v : VolumeState) (user : ℕ) (opens : List Opened) (call : TreeCall) → volume_refusal v user opens (volume_call call) ≡ tree_refusal v user opens call

-- other bytes in a fork, that are written at a moment, are one edit
abbrev pub ForkEffectsAreEdits : Type 0
ForkEffectsAreEdits = (v : VolumeState) (now id : ℕ) (resource : Bool) (bytes : List ℕ) → after_call v now (Writes now id resource bytes ∷ []) ≡ fork_effect now id resource bytes true v

-- where a call is not refused its edits may be made
abbrev pub CallsMayEdit : Type 0
CallsMayEdit = (v : VolumeState) (user : ℕ) (opens : List Opened) (now : ℕ) (call : VolumeCall) → is_formed_call call ≡ true → volume_refusal v user opens call ≡ None → IsSoundVolume v → MayEditAll v (call_edits v user now call)

-- over a call the next id does not fall; with this the law that follows goes from one call to the next
abbrev pub NextIdDoesNotFall : Type 0
NextIdDoesNotFall = (v : VolumeState) (now : ℕ) (edits : List Edit) → v.next_id ≤ (after_call v now edits).next_id

-- a node whose id was drawn before a call was there before it
abbrev pub EditsDrawOnce : Type 0
EditsDrawOnce = (v : VolumeState) (now : ℕ) (edits : List Edit) (id : ℕ) → id < v.next_id → has_node (after_call v now edits).rows id ≡ true → has_node v.rows id ≡ true

-- an edit lets the volume's name be
abbrev pub EditKeepsName : Type 0
EditKeepsName = (v : VolumeState) (e : Edit) → (edited v e).name ≡ v.name

-- so does a call
abbrev pub CallKeepsName : Type 0
CallKeepsName = (v : VolumeState) (now : ℕ) (edits : List Edit) → (after_call v now edits).name ≡ v.name

-- an edit lets each file be of which a fork is open, if the node that goes, where one does, is no such file; what change their forks are files
abbrev pub LetsFilesBe : VolumeState → List Opened → Edit → Type 0
LetsFilesBe v opens (Goes id) = is_busy opens id ≡ false
LetsFilesBe v opens (Exchanges a b) = MayExchange v a b
LetsFilesBe v opens e = Unit {0}

-- so does each of these edits where it comes
abbrev pub LetFilesBe : VolumeState → List Opened → List Edit → Type 0
LetFilesBe v opens [] = Unit {0}
LetFilesBe v opens (e ∷ es) = LetsFilesBe v opens e × LetFilesBe (edited v e) opens es

-- a file of which a fork is open is there after such an edit
abbrev pub EditLetsFilesBe : Type 0
EditLetsFilesBe = (v : VolumeState) (opens : List Opened) (e : Edit) (id : ℕ) → LetsFilesBe v opens e → is_busy opens id ≡ true → has_file v.rows id ≡ true → has_file (edited v e).rows id ≡ true

-- and after a call of such edits
abbrev pub CallLetsFilesBe : Type 0
CallLetsFilesBe = (v : VolumeState) (opens : List Opened) (now : ℕ) (edits : List Edit) (id : ℕ) → LetFilesBe v opens edits → is_busy opens id ≡ true → has_file v.rows id ≡ true → has_file (after_call v now edits).rows id ≡ true

-- where a call is not refused, its edits let these files be
abbrev pub CallsLetFilesBe : Type 0
CallsLetFilesBe = (v : VolumeState) (user : ℕ) (opens : List Opened) (now : ℕ) (call : VolumeCall) → volume_refusal v user opens call ≡ None → IsSoundVolume v → LetFilesBe v opens (call_edits v user now call)
