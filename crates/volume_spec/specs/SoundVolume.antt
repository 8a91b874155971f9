-- What holds of every volume (this profile, after the AFP Reference's "Catalog node IDs" and "Desktop database").
use Rattle.afp_base.specs.Limits.{most_fork_bytes}
use Rattle.std.specs.Prelude.{◌≡◌, ℕ, zero, suc, ◌^◌, ◌+◌, ◌==◌, nat_le, nat_lt, Bool, true, not, ◌&&◌, ◌||◌, if◌then◌else◌, List, [], ◌∷◌, ◌++◌, length, sum_by, bit_and, bytes_eq, is_none}
use Rattle.std.specs.List.{list_all, list_any}
use Rattle.afp_base.specs.Apart.{are_apart}
use Rattle.afp_names.specs.Name.{name_fault, name_key}
use Rattle.volume_spec.specs.Order.{rises, rises_from}
use Rattle.volume_spec.specs.VolumeState.{Row, Privileges, Comment, Icon, Appl, VolumeState, all_rights, finder_size, root_id, root_parent, first_id}

-- whether some row has this id
abbrev pub has_node : List Row → ℕ → Bool
has_node rows id = list_any (λ row. row.id == id) rows

-- whether this id is a file's
abbrev pub has_file : List Row → ℕ → Bool
has_file rows id = list_any (λ row. row.id == id && not row.dir) rows

-- whether this id is the root's, or a directory's whose parents lead to the root through directories in so many steps
abbrev pub leads_to_root : List Row → ℕ → ℕ → Bool
leads_to_root rows zero id = id == root_id
leads_to_root rows (suc steps) id = (id == root_id) || list_any (λ row. (row.id == id) && (row.dir && leads_to_root rows steps row.parent)) rows

-- the root, which has the volume's name, or a node with a drawn id whose parents lead to the root; no way there is longer than there are rows
abbrev pub is_in_place : VolumeState → Row → Bool
is_in_place v row =
    if row.id == root_id then row.dir && (row.parent == root_parent && bytes_eq row.name v.name)
    else (nat_le first_id row.id && nat_lt row.id v.next_id) && leads_to_root v.rows (length v.rows) row.parent

-- ids differ, the root is there, and every row is in its place
unfoldable pub is_tree : VolumeState → Bool
is_tree v = are_apart (λ a b. a.id == b.id) v.rows && (has_node v.rows root_id && list_all (is_in_place v) v.rows)

-- two nodes of one directory whose names have one key
abbrev pub are_named_alike : Row → Row → Bool
are_named_alike a b = (a.parent == b.parent) && bytes_eq (name_key a.name) (name_key b.name)

-- no two nodes of a directory have names with one key
unfoldable pub has_apart_names : VolumeState → Bool
has_apart_names v = are_apart are_named_alike v.rows

-- comments stand on nodes, APPL mappings on files
unfoldable pub has_noted_nodes : VolumeState → Bool
has_noted_nodes v = list_all (λ comment. has_node v.rows comment.node) v.comments && list_all (λ appl. has_file v.rows appl.node) v.appls

-- the attributes that a call may set, of files and of directories (AFP Reference, "File attributes", "Directory attributes")
abbrev pub file_attributes : ℕ
file_attributes = 0x01e5

abbrev pub dir_attributes : ℕ
dir_attributes = 0x01c5

-- a name, and Finder info of its size
abbrev pub is_named : Row → Bool
is_named row = is_none (name_fault row.name) && (length row.finder == finder_size)

-- a rights byte is at most 7; a file's owner, group and rights are 0
abbrev pub are_rights : Privileges → Bool
are_rights p = nat_le p.everyone_rights all_rights && (nat_le p.group_rights all_rights && nat_le p.owner_rights all_rights)

abbrev pub are_none : Privileges → Bool
are_none p = ((p.owner == 0) && (p.group == 0)) && ((p.everyone_rights == 0) && ((p.group_rights == 0) && (p.owner_rights == 0)))

abbrev pub has_fit_privileges : Bool → Privileges → Bool
has_fit_privileges dir p = if dir then are_rights p else are_none p

-- owner, group and rights as its kind has them; attributes that can be set; a directory has no bytes and is not filed
abbrev pub is_formed : Row → Bool
is_formed row = has_fit_privileges row.dir row.privileges && (is_named row &&
    (if row.dir then (bit_and row.attributes dir_attributes == row.attributes) && ((length row.data_fork == 0) && ((length row.resource_fork == 0) && not row.filed))
    else (bit_and row.attributes file_attributes == row.attributes)))

-- the size of a creator and of a type (Inside Macintosh, "Finder Interface")
abbrev pub code_size : ℕ
code_size = 4

abbrev pub most_nodes : ℕ
most_nodes = 100000

abbrev pub most_icons : ℕ
most_icons = 1024

abbrev pub most_appls : ℕ
most_appls = 4096

abbrev pub longest_comment : ℕ
longest_comment = 199

abbrev pub longest_icon : ℕ
longest_icon = 65535

-- the next id where all ids of 4 bytes have been given
abbrev pub last_next_id : ℕ
last_next_id = 2 ^ 32

-- all bytes of all forks
abbrev pub fork_bytes : List Row → ℕ
fork_bytes rows = sum_by (λ row. length row.data_fork + length row.resource_fork) rows

-- the limits are kept
unfoldable pub keeps_limits : VolumeState → Bool
keeps_limits v = nat_le (length v.rows) most_nodes && (nat_le (fork_bytes v.rows) most_fork_bytes && (nat_le (length v.icons) most_icons && nat_le (length v.appls) most_appls))

abbrev pub is_comment : Comment → Bool
is_comment comment = nat_le 1 (length comment.text) && nat_le (length comment.text) longest_comment

abbrev pub is_icon : Icon → Bool
is_icon icon = (length icon.creator == code_size) && ((length icon.kind == code_size) && nat_le (length icon.bits) longest_icon)

abbrev pub are_one_icon : Icon → Icon → Bool
are_one_icon a b = bytes_eq a.creator b.creator && (bytes_eq a.kind b.kind && (a.icon_kind == b.icon_kind))

abbrev pub are_one_appl : Appl → Appl → Bool
are_one_appl a b = bytes_eq a.creator b.creator && (a.node == b.node)

-- the next id can be drawn or the ids have ended; all rows are formed; a node has one comment at most, of 1 to 199 bytes; icons have
-- keys of their own and at most 65,535 bytes, APPL mappings pairs of their own
unfoldable pub is_formed_volume : VolumeState → Bool
is_formed_volume v =
    (nat_le first_id v.next_id && nat_le v.next_id last_next_id)
    && (list_all is_formed v.rows
    && (are_apart (λ a b. a.node == b.node) v.comments
    && (list_all is_comment v.comments
    && (are_apart are_one_icon v.icons
    && (list_all is_icon v.icons
    && (are_apart are_one_appl v.appls
    && list_all (λ appl. length appl.creator == code_size) v.appls))))))

-- rows stand by rising id
unfoldable pub has_rising_ids : List Row → Bool
has_rising_ids rows = rises_from (λ row. row.id) 0 rows

-- what an icon and an APPL mapping stand by in their lists
abbrev pub icon_key : Icon → List ℕ
icon_key icon = icon.creator ++ icon.kind ++ icon.icon_kind ∷ []

abbrev pub appl_key : Appl → List ℕ
appl_key appl = appl.creator ++ appl.node ∷ []

-- rows stand by rising id, comments by rising node, icons by creator, type and icon type, APPL mappings by creator and node
unfoldable pub is_in_order : VolumeState → Bool
is_in_order v = has_rising_ids v.rows && (rises_from (λ comment. comment.node) 0 v.comments && (rises icon_key v.icons && rises appl_key v.appls))

-- what holds of every volume
pub record IsSoundVolume (v : VolumeState) : Type 0 where
  pub tree : is_tree v ≡ true
  pub names : has_apart_names v ≡ true
  pub notes : has_noted_nodes v ≡ true
  pub limits : keeps_limits v ≡ true
  pub formed : is_formed_volume v ≡ true
  pub order : is_in_order v ≡ true

-- the bytes of a row's forks
abbrev pub row_bytes : Row → ℕ
row_bytes row = length row.data_fork + length row.resource_fork

-- a row that may stand in the place of another
pub record TakesRow (s t : Row) : Type 0 where
  pub id : t.id ≡ s.id
  pub parent : t.parent ≡ s.parent
  pub dir : t.dir ≡ s.dir
  pub name : t.name ≡ s.name
  pub formed : is_formed t ≡ true
