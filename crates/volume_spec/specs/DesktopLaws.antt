-- The laws of a volume's desktop database, in the subject's own words (this profile).
use Rattle.std.specs.Prelude.{◌≡◌, ℕ, ◌==◌, true, false, List, [], ◌∷◌, ◌++◌, length, Some, None, take, bytes_eq, if◌then◌else◌}
use Rattle.volume_spec.specs.Desktop.{appl_at, comment_at, creators_of, has_no_appl_room, has_no_icon_room, icon_at, icon_under, is_appl, nth_icon, pair_key, with_appl, with_comment, with_icon, without_appl, without_comment, without_mappings, IsDesktop}
use Rattle.volume_spec.specs.Edits.{without_node}
use Rattle.volume_spec.specs.Order.{rises}
use Rattle.volume_spec.specs.SoundVolume.{appl_key, code_size, has_file, has_node, has_noted_nodes, icon_key, is_icon, longest_comment, longest_icon, IsSoundVolume}
use Rattle.volume_spec.specs.VolumeState.{Appl, Comment, Icon, VolumeState}

-- What was put is found under its key, what was taken is not, and what stands under other keys stays.

abbrev pub FindsPutIcon : Type 0
FindsPutIcon = (icon : Icon) (icons : List Icon) (key : List ℕ) → icon_at key (with_icon icon icons) ≡ (if bytes_eq (icon_key icon) key then Some icon else icon_at key icons)

abbrev pub FindsPutAppl : Type 0
FindsPutAppl = (appl : Appl) (appls : List Appl) (creator : List ℕ) (node : ℕ) → appl_at creator node (with_appl appl appls) ≡ (if bytes_eq (appl_key appl) (pair_key creator node) then Some appl else appl_at creator node appls)

abbrev pub FindsNoTakenAppl : Type 0
FindsNoTakenAppl = (appls : List Appl) (c d : List ℕ) (m n : ℕ) → appl_at d n (without_appl c m appls) ≡ (if bytes_eq (pair_key c m) (pair_key d n) then None else appl_at d n appls)

abbrev pub FindsPutComment : Type 0
FindsPutComment = (comments : List Comment) (node other : ℕ) (text : List ℕ) → (length text == 0) ≡ false
    → comment_at other (with_comment node text comments) ≡ (if node == other then Some (record { node = node; text = take longest_comment text }) else comment_at other comments)

abbrev pub FindsNoTakenComment : Type 0
FindsNoTakenComment = (comments : List Comment) (node other : ℕ) → comment_at other (without_comment node comments) ≡ (if node == other then None else comment_at other comments)

-- Each call keeps what holds of the lists; where the limit is reached, an icon or a mapping of a new key is not put.

abbrev pub IconKeepsDesktop : Type 0
IconKeepsDesktop = (comments : List Comment) (icons : List Icon) (appls : List Appl) (icon : Icon) → is_icon icon ≡ true → has_no_icon_room (icon_key icon) icons ≡ false → IsDesktop comments icons appls → IsDesktop comments (with_icon icon icons) appls

abbrev pub ApplKeepsDesktop : Type 0
ApplKeepsDesktop = (comments : List Comment) (icons : List Icon) (appls : List Appl) (appl : Appl) → is_appl appl ≡ true → has_no_appl_room appl.creator appl.node appls ≡ false → IsDesktop comments icons appls → IsDesktop comments icons (with_appl appl appls)

abbrev pub TakenApplKeepsDesktop : Type 0
TakenApplKeepsDesktop = (comments : List Comment) (icons : List Icon) (appls : List Appl) (creator : List ℕ) (node : ℕ) → IsDesktop comments icons appls → IsDesktop comments icons (without_appl creator node appls)

abbrev pub CommentKeepsDesktop : Type 0
CommentKeepsDesktop = (comments : List Comment) (icons : List Icon) (appls : List Appl) (node : ℕ) (text : List ℕ) → IsDesktop comments icons appls → IsDesktop (with_comment node text comments) icons appls

abbrev pub TakenCommentKeepsDesktop : Type 0
TakenCommentKeepsDesktop = (comments : List Comment) (icons : List Icon) (appls : List Appl) (node : ℕ) → IsDesktop comments icons appls → IsDesktop (without_comment node comments) icons appls

abbrev pub GoneNodeKeepsDesktop : Type 0
GoneNodeKeepsDesktop = (comments : List Comment) (icons : List Icon) (appls : List Appl) (node : ℕ) → IsDesktop comments icons appls → IsDesktop (without_comment node comments) icons (without_mappings node appls)

-- a volume with another desktop database
abbrev pub with_desktop : VolumeState → List Comment → List Icon → List Appl → VolumeState
with_desktop v comments icons appls = record v { comments = comments; icons = icons; appls = appls }

-- a sound volume has a desktop database, and any other that stands on its nodes may take its place
abbrev pub SoundHasDesktop : Type 0
SoundHasDesktop = (v : VolumeState) → IsSoundVolume v → IsDesktop v.comments v.icons v.appls

abbrev pub DesktopStands : Type 0
DesktopStands = (v : VolumeState) (comments : List Comment) (icons : List Icon) (appls : List Appl) → IsDesktop comments icons appls → has_noted_nodes (with_desktop v comments icons appls) ≡ true → IsSoundVolume v → IsSoundVolume (with_desktop v comments icons appls)

-- each call that is not refused keeps a sound volume sound

abbrev pub AddIconKeepsSound : Type 0
AddIconKeepsSound = (v : VolumeState) (icon : Icon) → is_icon icon ≡ true → has_no_icon_room (icon_key icon) v.icons ≡ false → IsSoundVolume v → IsSoundVolume (record v { icons = with_icon icon v.icons })

abbrev pub AddApplKeepsSound : Type 0
AddApplKeepsSound = (v : VolumeState) (appl : Appl) → is_appl appl ≡ true → has_file v.rows appl.node ≡ true → has_no_appl_room appl.creator appl.node v.appls ≡ false → IsSoundVolume v → IsSoundVolume (record v { appls = with_appl appl v.appls })

abbrev pub RemoveApplKeepsSound : Type 0
RemoveApplKeepsSound = (v : VolumeState) (creator : List ℕ) (node : ℕ) → IsSoundVolume v → IsSoundVolume (record v { appls = without_appl creator node v.appls })

abbrev pub AddCommentKeepsSound : Type 0
AddCommentKeepsSound = (v : VolumeState) (node : ℕ) (text : List ℕ) → has_node v.rows node ≡ true → IsSoundVolume v → IsSoundVolume (record v { comments = with_comment node text v.comments })

abbrev pub RemoveCommentKeepsSound : Type 0
RemoveCommentKeepsSound = (v : VolumeState) (node : ℕ) → IsSoundVolume v → IsSoundVolume (record v { comments = without_comment node v.comments })

-- with a node go its comment and its mappings
abbrev pub CommentGoesWithNode : Type 0
CommentGoesWithNode = (v : VolumeState) (node : ℕ) → (without_node node v).comments ≡ without_comment node v.comments

abbrev pub MappingsGoWithNode : Type 0
MappingsGoWithNode = (v : VolumeState) (node : ℕ) → (without_node node v).appls ≡ without_mappings node v.appls

-- the creators of a file rise
abbrev pub CreatorsRise : Type 0
CreatorsRise = (comments : List Comment) (icons : List Icon) (appls : List Appl) (node : ℕ) → IsDesktop comments icons appls → rises (λ creator. creator) (creators_of node appls) ≡ true

-- an icon under the bytes of a creator, a type and an icon type has these
abbrev pub IconHasParts : Type 0
IconHasParts = (creator kind bits : List ℕ) (icon_kind tag : ℕ) → length creator ≡ code_size → length kind ≡ code_size
    → icon_under (creator ++ kind ++ icon_kind ∷ []) tag bits ≡ record { creator = creator; kind = kind; icon_kind = icon_kind; tag = tag; bits = take longest_icon bits }

-- an icon that is listed is found under its key
abbrev pub ListedIconIsFound : Type 0
ListedIconIsFound = (comments : List Comment) (icons : List Icon) (appls : List Appl) (creator : List ℕ) (n : ℕ) (icon : Icon) → IsDesktop comments icons appls → nth_icon creator n icons ≡ Some icon → icon_at (icon_key icon) icons ≡ Some icon
