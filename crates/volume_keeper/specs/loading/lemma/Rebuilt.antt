-- A volume made of its rows, one after the other: what the code does, for private contracts.
use Rattle.std.specs.Prelude.{◌≡◌, pos, Bool, true, false, List, [], ◌∷◌, is_none}
use Rattle.afp_names.specs.Name.{name_fault}
use Rattle.volume_spec.specs.VolumeState.{Comment, Icon, Appl, VolumeState}
use Rattle.volume_spec.specs.SoundVolume.{icon_key}
use Rattle.volume_spec.specs.Desktop.{has_no_appl_room, has_no_icon_room, icon_under, with_appl, with_comment, with_icon}
use Rattle.volume_spec.specs.DesktopLaws.{with_desktop}
use Rattle.volume_keeper_records.specs.declared.rows.TableRow.{TableRow}
use Rattle.volume_keeper_records.specs.declared.rows.TableRow.TheVariants as row
use Rattle.volume_keeper_records.specs.Shape.{bare_row}
use Rattle.volume_tree.specs.declared.head.VolumeHead.{VolumeHead}
use Rattle.volume_tree.specs.declared.restore.LoadedNode.{LoadedNode}
use Rattle.volume_tree.specs.Filled.{filled, FitsFork}

-- a head of zeros
abbrev pub no_head : VolumeHead
no_head = record { created = pos 0; modified = pos 0; backup = pos 0; next_id = 0 }

-- the head that a row is
abbrev pub head_said : TableRow → VolumeHead
head_said (row.Head head) = record { created = head.created; modified = head.modified; backup = head.backup; next_id = head.next_id }
head_said (row.Node node) = no_head
head_said (row.Block block) = no_head
head_said (row.Comment comment) = no_head
head_said (row.Icon icon) = no_head
head_said (row.Appl appl) = no_head

-- the node that a row is, with the lengths of its forks
abbrev pub nodes_said : TableRow → List LoadedNode
nodes_said (row.Head head) = []
nodes_said (row.Node node) = record { node = bare_row node; data_len = node.data_length; resource_len = node.resource_length } ∷ []
nodes_said (row.Block block) = []
nodes_said (row.Comment comment) = []
nodes_said (row.Icon icon) = []
nodes_said (row.Appl appl) = []

-- the node that a row is has a name
abbrev pub has_name : TableRow → Bool
has_name (row.Head head) = true
has_name (row.Node node) = is_none (name_fault node.name)
has_name (row.Block block) = true
has_name (row.Comment comment) = true
has_name (row.Icon icon) = true
has_name (row.Appl appl) = true

-- a volume with nothing in its desktop database
abbrev pub without_desktop : VolumeState → VolumeState
without_desktop v = with_desktop v [] [] []

-- a volume with the block that a row is
abbrev pub with_block : TableRow → VolumeState → VolumeState
with_block (row.Head head) v = v
with_block (row.Node node) v = v
with_block (row.Block block) v = filled block.node block.is_resource block.index block.bytes v
with_block (row.Comment comment) v = v
with_block (row.Icon icon) v = v
with_block (row.Appl appl) v = v

abbrev pub with_blocks : List TableRow → VolumeState → VolumeState
with_blocks [] v = v
with_blocks (x ∷ rows) v = with_blocks rows (with_block x v)

-- a block has its place in a fork of the volume
abbrev pub FitsRow : TableRow → VolumeState → Type 0
FitsRow (row.Head head) v = Unit {0}
FitsRow (row.Node node) v = Unit {0}
FitsRow (row.Block block) v = FitsFork v block.node block.is_resource block.index block.bytes
FitsRow (row.Comment comment) v = Unit {0}
FitsRow (row.Icon icon) v = Unit {0}
FitsRow (row.Appl appl) v = Unit {0}

abbrev pub FitRows : List TableRow → VolumeState → Type 0
FitRows [] v = Unit {0}
FitRows (x ∷ rows) v = FitsRow x v × FitRows rows (with_block x v)

-- the lists of a desktop database, with what a row is
abbrev pub comments_with : TableRow → List Comment → List Comment
comments_with (row.Head head) list = list
comments_with (row.Node node) list = list
comments_with (row.Block block) list = list
comments_with (row.Comment comment) list = with_comment comment.node comment.text list
comments_with (row.Icon icon) list = list
comments_with (row.Appl appl) list = list

abbrev pub icons_with : TableRow → List Icon → List Icon
icons_with (row.Head head) list = list
icons_with (row.Node node) list = list
icons_with (row.Block block) list = list
icons_with (row.Comment comment) list = list
icons_with (row.Icon icon) list = with_icon (icon_under (icon_key icon) icon.tag icon.bits) list
icons_with (row.Appl appl) list = list

abbrev pub appls_with : TableRow → List Appl → List Appl
appls_with (row.Head head) list = list
appls_with (row.Node node) list = list
appls_with (row.Block block) list = list
appls_with (row.Comment comment) list = list
appls_with (row.Icon icon) list = list
appls_with (row.Appl appl) list = with_appl appl list

-- with what all rows are, one after the other
abbrev pub with_all : {A : Type 0} → (TableRow → A → A) → List TableRow → A → A
with_all put [] a = a
with_all put (x ∷ rows) a = with_all put rows (put x a)

-- there is room for the icon that a row is, and for the mapping
abbrev pub HasIconRoom : TableRow → List Icon → Type 0
HasIconRoom (row.Head head) list = Unit {0}
HasIconRoom (row.Node node) list = Unit {0}
HasIconRoom (row.Block block) list = Unit {0}
HasIconRoom (row.Comment comment) list = Unit {0}
HasIconRoom (row.Icon icon) list = has_no_icon_room (icon_key icon) list ≡ false
HasIconRoom (row.Appl appl) list = Unit {0}

abbrev pub HasApplRoom : TableRow → List Appl → Type 0
HasApplRoom (row.Head head) list = Unit {0}
HasApplRoom (row.Node node) list = Unit {0}
HasApplRoom (row.Block block) list = Unit {0}
HasApplRoom (row.Comment comment) list = Unit {0}
HasApplRoom (row.Icon icon) list = Unit {0}
HasApplRoom (row.Appl appl) list = has_no_appl_room appl.creator appl.node list ≡ false

-- there is room for what all rows are, one after the other
abbrev pub HaveRoom : {A : Type 0} → (TableRow → A → Type 0) → (TableRow → A → A) → List TableRow → A → Type 0
HaveRoom HasRoom put [] a = Unit {0}
HaveRoom HasRoom put (x ∷ rows) a = HasRoom x a × HaveRoom HasRoom put rows (put x a)
