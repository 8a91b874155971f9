-- The laws of a volume, in the subject's own words (this profile).
use Rattle.std.specs.Prelude.{map, option_map, ◌+◌, slice_get, slice_set, Ok, ◌≡◌, ◌↔◌, ℕ, pos, suc, ◌||◌, ◌<◌, ◌≤◌, ◌==◌, sum, take, if◌then◌else◌, Bool, true, false, List, length, Some, None}
use Rattle.std.specs.List.{remove, count_by, Contains, list_all}
use Rattle.afp_names.specs.Path.{PathValue, SpellsPath}
use Rattle.volume_spec.specs.Order.{rises}
use Rattle.volume_spec.specs.Listing.{row_key, children, listed, is_child, pages}
use Rattle.volume_spec.specs.VolumeState.{Row, VolumeState, fresh_volume}
use Rattle.afp_base.specs.Apart.{are_apart}
use Rattle.afp_base.specs.Limits.{most_fork_bytes}
use Rattle.volume_spec.specs.SoundVolume.{has_rising_ids, TakesRow, row_bytes, fork_bytes, IsSoundVolume, leads_to_root, are_named_alike, has_file, has_node}
use Rattle.volume_spec.specs.TypedVolume.{are_bytes, is_date, is_typed_row, is_typed_volume}
use Rattle.volume_spec.specs.Walk.{found, row_at, is_named_path, parent_at, child_by_key, child_by_long_name}
use Rattle.volume_spec.specs.Edits.{bare, exchanged, with_row, with_changed, without, is_below, is_taken, above, is_another}
use Rattle.volume_spec.specs.TreeSteps.{TreeStep, tree_refusal, tree_effect, is_named_call, is_typed_step, after_steps}
use Rattle.afp_names.specs.Name.{name_fault, name_key}
use Rattle.volume_spec.specs.Shared.{Opened, is_busy}
use Rattle.volume_spec.specs.CreateDir.{create_dir_refusal, create_dir_effect}
use Rattle.volume_spec.specs.CreateFile.{create_file_refusal, create_file_effect}
use Rattle.volume_spec.specs.Delete.{delete_refusal, delete_effect}
use Rattle.volume_spec.specs.Rename.{rename_refusal, rename_effect}
use Rattle.volume_spec.specs.MoveAndRename.{move_refusal, move_effect}
use Rattle.volume_spec.specs.SetFileDirParms.{Settings, are_fit_settings, with_node_set, set_file_parms_refusal, set_dir_parms_refusal, set_file_dir_parms_refusal, set_parms_effect}
use Rattle.volume_spec.specs.SetVolParms.{set_vol_parms_effect}
use Rattle.volume_spec.specs.Rights.{is_closed, is_owner, lacks}

-- no way to the root is longer than there are rows, so the bound of soundness takes none away
abbrev pub NeedsNoMore : Type 0
NeedsNoMore = (rows : List Row) (steps id : ℕ) → leads_to_root rows steps id ≡ true → leads_to_root rows (length rows) id ≡ true

-- a volume that nobody has used is sound
abbrev pub FreshIsSound : Type 0
FreshIsSound = (name : List ℕ) (now : ℕ) → name_fault name ≡ None → IsSoundVolume (fresh_volume name now)

-- each call that is not refused keeps a sound volume sound

abbrev pub CreateDirKeepsSound : Type 0
CreateDirKeepsSound = (v : VolumeState) (user : ℕ) (now dir : ℕ) (path : PathValue) → is_named_path path ≡ true → create_dir_refusal v user dir path ≡ None → IsSoundVolume v → IsSoundVolume (create_dir_effect v user now dir path)

abbrev pub CreateFileKeepsSound : Type 0
CreateFileKeepsSound = (v : VolumeState) (user : ℕ) (opens : List Opened) (hard : Bool) (now dir : ℕ) (path : PathValue) → is_named_path path ≡ true → create_file_refusal v user opens hard dir path ≡ None → IsSoundVolume v → IsSoundVolume (create_file_effect v user now dir path)

abbrev pub DeleteKeepsSound : Type 0
DeleteKeepsSound = (v : VolumeState) (user : ℕ) (opens : List Opened) (now dir : ℕ) (path : PathValue) → delete_refusal v user opens dir path ≡ None → IsSoundVolume v → IsSoundVolume (delete_effect v user now dir path)

abbrev pub RenameKeepsSound : Type 0
RenameKeepsSound = (v : VolumeState) (user : ℕ) (now dir : ℕ) (path new : PathValue) → is_named_path new ≡ true → rename_refusal v user dir path new ≡ None → IsSoundVolume v → IsSoundVolume (rename_effect v user now dir path new)

abbrev pub MoveKeepsSound : Type 0
MoveKeepsSound = (v : VolumeState) (user : ℕ) (now dir : ℕ) (path : PathValue) (to_dir : ℕ) (to_path new : PathValue) → is_named_path new ≡ true → move_refusal v user dir path to_dir to_path new ≡ None → IsSoundVolume v → IsSoundVolume (move_effect v user now dir path to_dir to_path new)

-- whatever is set of a node, if Finder info has its size and rights are three bits each
abbrev pub SettingsKeepSound : Type 0
SettingsKeepSound = (v : VolumeState) (now id : ℕ) (s : Settings) → are_fit_settings s ≡ true → IsSoundVolume v → IsSoundVolume (with_node_set now id s v)

abbrev pub SetFileParmsKeepsSound : Type 0
SetFileParmsKeepsSound = (v : VolumeState) (user : ℕ) (now dir bits : ℕ) (path : PathValue) (tail : List ℕ) → set_file_parms_refusal v user dir bits path tail ≡ None → IsSoundVolume v → IsSoundVolume (set_parms_effect v user now dir bits path tail)

abbrev pub SetDirParmsKeepsSound : Type 0
SetDirParmsKeepsSound = (v : VolumeState) (user : ℕ) (now dir bits : ℕ) (path : PathValue) (tail : List ℕ) → set_dir_parms_refusal v user dir bits path tail ≡ None → IsSoundVolume v → IsSoundVolume (set_parms_effect v user now dir bits path tail)

abbrev pub SetFileDirParmsKeepsSound : Type 0
SetFileDirParmsKeepsSound = (v : VolumeState) (user : ℕ) (now dir bits : ℕ) (path : PathValue) (tail : List ℕ) → set_file_dir_parms_refusal v user dir bits path tail ≡ None → IsSoundVolume v → IsSoundVolume (set_parms_effect v user now dir bits path tail)

abbrev pub SetVolParmsKeepsSound : Type 0
SetVolParmsKeepsSound = (v : VolumeState) (now : ℕ) (tail : List ℕ) → IsSoundVolume v → IsSoundVolume (set_vol_parms_effect v now tail)

-- a list in order has each child of the directory just once, and nothing else; in a sound volume its keys rise
abbrev pub ListsChildrenOnce : Type 0
ListsChildrenOnce = (v : VolumeState) (dir id : ℕ) → IsSoundVolume v → count_by (λ (row : Row). row.id == id) (listed v.rows dir) ≡ (if is_child v.rows dir id then 1 else 0)

abbrev pub ListsByKey : Type 0
ListsByKey = (v : VolumeState) (dir : ℕ) → IsSoundVolume v → rises row_key (listed v.rows dir) ≡ true

-- a list whose keys rise and that has the children of a directory is that list
abbrev pub ListsNoOther : Type 0
ListsNoOther = (v : VolumeState) (dir : ℕ) (list : List Row) → rises row_key list ≡ true → ((row : Row) → Contains list row ↔ Contains (children v.rows dir) row) → IsSoundVolume v → list ≡ listed v.rows dir

-- pages from start 1, each from behind the one before it, are the list up to the sum of their counts
abbrev pub PagesAreList : Type 0
PagesAreList = (list : List Row) (counts : List ℕ) → pages list 1 counts ≡ take (sum counts) list

-- what is asked by parent or by key: where ids differ a node is below another just where it is that, or its parent is below it; where
-- names differ a place is taken just where the child with that key is another node
abbrev pub BelowByParent : Type 0
BelowByParent = (rows : List Row) (steps node id : ℕ) → are_apart (λ (a : Row) b. a.id == b.id) rows ≡ true → is_below rows (suc steps) node id ≡ ((id == node) || above (parent_at rows id) (is_below rows steps node))

abbrev pub TakenByKey : Type 0
TakenByKey = (rows : List Row) (node dir : ℕ) (name : List ℕ) → are_apart are_named_alike rows ≡ true → is_taken rows node dir name ≡ is_another node (child_by_key rows dir (name_key name))

-- calls one after another, refused or not, keep a volume sound
abbrev pub StepsKeepSound : Type 0
StepsKeepSound = (v : VolumeState) (steps : List TreeStep) → list_all (λ (step : TreeStep). is_named_call step.call) steps ≡ true → IsSoundVolume v → IsSoundVolume (after_steps v steps)

-- each call that is not refused keeps the numbers of a sound volume in their ranges, and so do calls one after another
abbrev pub CallsKeepTyped : Type 0
CallsKeepTyped = (v : VolumeState) (step : TreeStep) → is_typed_step step ≡ true → is_named_call step.call ≡ true → tree_refusal v step.user step.opens step.call ≡ None → IsSoundVolume v → is_typed_volume v ≡ true → is_typed_volume (tree_effect v step.user step.now step.call) ≡ true

abbrev pub StepsKeepTyped : Type 0
StepsKeepTyped = (v : VolumeState) (steps : List TreeStep) → list_all is_typed_step steps ≡ true → list_all (λ (step : TreeStep). is_named_call step.call) steps ≡ true → IsSoundVolume v → is_typed_volume v ≡ true → is_typed_volume (after_steps v steps) ≡ true

-- a call lets the volume's name be; one that is not refused lets each file be of which a fork is open
abbrev pub NameStays : Type 0
NameStays = (v : VolumeState) (step : TreeStep) → (tree_effect v step.user step.now step.call).name ≡ v.name

abbrev pub OpenFilesStay : Type 0
OpenFilesStay = (v : VolumeState) (step : TreeStep) (id : ℕ) → tree_refusal v step.user step.opens step.call ≡ None → is_busy step.opens id ≡ true → has_file v.rows id ≡ true → has_file (tree_effect v step.user step.now step.call).rows id ≡ true

-- a volume that nobody has used, and one with another row in the place of one, have their numbers in their ranges
abbrev pub FreshIsTyped : Type 0
FreshIsTyped = (name : List ℕ) (now : ℕ) → name_fault name ≡ None → is_date (pos now) ≡ true → is_typed_volume (fresh_volume name now) ≡ true

abbrev pub PutKeepsTyped : Type 0
PutKeepsTyped = (v : VolumeState) (id : ℕ) (t : Row) → is_typed_row t ≡ true → is_typed_volume v ≡ true → is_typed_volume (record v { rows = with_changed id (λ row. t) v.rows }) ≡ true

-- so has one whose two files changed forks and modified dates
abbrev pub ExchangeKeepsTyped : Type 0
ExchangeKeepsTyped = (v : VolumeState) (a b : ℕ) (s t : Row) → row_at v.rows a ≡ Some s → row_at v.rows b ≡ Some t → is_typed_volume v ≡ true → is_typed_volume (exchanged a b s t v) ≡ true

-- an id that was drawn and is no node's is never a node's again
abbrev pub NeverDrawnAgain : Type 0
NeverDrawnAgain = (v : VolumeState) (steps : List TreeStep) (id : ℕ) → id < v.next_id → has_node v.rows id ≡ false → has_node (after_steps v steps).rows id ≡ false

-- where a walk leads there is a node
abbrev pub WalksEndAtNodes : Type 0
WalksEndAtNodes = (v : VolumeState) (user : ℕ) (dir id : ℕ) (path : PathValue) → IsSoundVolume v → found v.rows user dir path ≡ Ok id → has_node v.rows id ≡ true

-- a row may take the place of one with the same id, parent, kind and name, if it is formed and the forks' bytes stay within the limit
abbrev pub PutKeepsSound : Type 0
PutKeepsSound = (v : VolumeState) (id : ℕ) (s t : Row) → row_at v.rows id ≡ Some s → TakesRow s t → fork_bytes v.rows + row_bytes t ≤ most_fork_bytes + row_bytes s → IsSoundVolume v → IsSoundVolume (record v { rows = with_changed id (λ row. t) v.rows })

-- what is done by id is done at the place of the row with that id
abbrev pub ChangesAtPlace : Type 0
ChangesAtPlace = (change : Row → Row) (rows : List Row) (i : ℕ) (s : Row) → are_apart (λ (a : Row) b. a.id == b.id) rows ≡ true → slice_get rows i ≡ Some s → with_changed s.id change rows ≡ slice_set rows i (change s)

abbrev pub RemovesAtPlace : Type 0
RemovesAtPlace = (rows : List Row) (i : ℕ) (s : Row) → are_apart (λ (a : Row) b. a.id == b.id) rows ≡ true → slice_get rows i ≡ Some s → without s.id rows ≡ remove rows i

-- a change by id is seen at that id and nowhere else; so is a deletion
abbrev pub ChangesAreSeen : Type 0
ChangesAreSeen = (rows : List Row) (id : ℕ) (change : Row → Row) → ((row : Row) → (change row).id ≡ row.id) → row_at (with_changed id change rows) id ≡ option_map change (row_at rows id)

abbrev pub ChangesLeaveOthers : Type 0
ChangesLeaveOthers = (rows : List Row) (id other : ℕ) (change : Row → Row) → ((row : Row) → (change row).id ≡ row.id) → (other == id) ≡ false → row_at (with_changed id change rows) other ≡ row_at rows other

abbrev pub GoneIsUnseen : Type 0
GoneIsUnseen = (rows : List Row) (id : ℕ) → row_at (without id rows) id ≡ None

abbrev pub GoneLeavesOthers : Type 0
GoneLeavesOthers = (rows : List Row) (id other : ℕ) → (other == id) ≡ false → row_at (without id rows) other ≡ row_at rows other

-- where rows stand in the order of their ids, ids differ; each edit keeps that order
abbrev pub RisingIdsDiffer : Type 0
RisingIdsDiffer = (rows : List Row) → has_rising_ids rows ≡ true → are_apart (λ (a : Row) b. a.id == b.id) rows ≡ true

abbrev pub NewRises : Type 0
NewRises = (v : VolumeState) (row : Row) → IsSoundVolume v → has_rising_ids (with_row row v).rows ≡ true

abbrev pub GoneRises : Type 0
GoneRises = (rows : List Row) (id : ℕ) → has_rising_ids rows ≡ true → has_rising_ids (without id rows) ≡ true

abbrev pub ChangedRises : Type 0
ChangedRises = (rows : List Row) (id : ℕ) (change : Row → Row) → ((row : Row) → (change row).id ≡ row.id) → has_rising_ids rows ≡ true → has_rising_ids (with_changed id change rows) ≡ true

-- a path that bytes spell in UTF-8 goes down to names alone
abbrev pub Utf8PathsAreNamed : Type 0
Utf8PathsAreNamed = (bytes : List ℕ) (path : PathValue) → SpellsPath bytes path → (path.kind == 2) ≡ false → is_named_path path ≡ true

-- so does any path that bytes spell
abbrev pub PathsAreNamed : Type 0
PathsAreNamed = (bytes : List ℕ) (path : PathValue) → are_bytes bytes ≡ true → SpellsPath bytes path → is_named_path path ≡ true

-- two files may change forks and modified dates
abbrev pub ExchangeKeepsSound : Type 0
ExchangeKeepsSound = (v : VolumeState) (a b : ℕ) (s t : Row) → (a == b) ≡ false → row_at v.rows a ≡ Some s → row_at v.rows b ≡ Some t → s.dir ≡ false → t.dir ≡ false → IsSoundVolume v → IsSoundVolume (exchanged a b s t v)

-- What is asked of places, ids, kinds, names, attributes, owners and rights is the same of rows with no bytes in their forks.
abbrev pub FindsBare : Type 0
FindsBare = (rows : List Row) (id : ℕ) → row_at (map bare rows) id ≡ option_map bare (row_at rows id)

abbrev pub ParentsBare : Type 0
ParentsBare = (rows : List Row) (id : ℕ) → parent_at (map bare rows) id ≡ parent_at rows id

abbrev pub KeysBare : Type 0
KeysBare = (rows : List Row) (dir : ℕ) (key : List ℕ) → child_by_key (map bare rows) dir key ≡ child_by_key rows dir key

abbrev pub LongNamesBare : Type 0
LongNamesBare = (rows : List Row) (dir : ℕ) (element : List ℕ) → child_by_long_name (map bare rows) dir element ≡ child_by_long_name rows dir element

abbrev pub WalksBare : Type 0
WalksBare = (rows : List Row) (user : ℕ) (dir : ℕ) (path : PathValue) → found (map bare rows) user dir path ≡ found rows user dir path

abbrev pub ClosedBare : Type 0
ClosedBare = (rows : List Row) (user here : ℕ) → is_closed (map bare rows) user here ≡ is_closed rows user here

abbrev pub LacksBare : Type 0
LacksBare = (rows : List Row) (user right id : ℕ) → lacks (map bare rows) user right id ≡ lacks rows user right id

abbrev pub OwnersBare : Type 0
OwnersBare = (rows : List Row) (user id : ℕ) → is_owner (map bare rows) user id ≡ is_owner rows user id

abbrev pub ListsBare : Type 0
ListsBare = (rows : List Row) (dir : ℕ) → listed (map bare rows) dir ≡ map bare (listed rows dir)

abbrev pub TakenBare : Type 0
TakenBare = (rows : List Row) (node dir : ℕ) (name : List ℕ) → is_taken (map bare rows) node dir name ≡ is_taken rows node dir name

abbrev pub BelowBare : Type 0
BelowBare = (rows : List Row) (steps node id : ℕ) → is_below (map bare rows) steps node id ≡ is_below rows steps node id

abbrev pub ChangesBare : Type 0
ChangesBare = (change : Row → Row) (id : ℕ) (rows : List Row) → ((row : Row) → bare (change row) ≡ change (bare row)) → map bare (with_changed id change rows) ≡ with_changed id change (map bare rows)

abbrev pub GoneBare : Type 0
GoneBare = (id : ℕ) (rows : List Row) → map bare (without id rows) ≡ without id (map bare rows)
