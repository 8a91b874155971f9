-- The first record that breaks a rule of a volume (this profile).
use Rattle.record_keeper.specs.Reading.{most_records}
use Rattle.std.specs.Prelude.{ℕ, ◌+◌, ◌*◌, ◌==◌, nat_le, nat_lt, Bool, false, not, ◌&&◌, ◌||◌, if◌then◌else◌, List, [], ◌∷◌, map, length, drop, sum_by, bytes_eq, option_map, unwrap_or, Option, Some, None}
use Rattle.std.specs.List.{list_any, filter, filter_map, find}
use Rattle.afp_base.specs.Limits.{block_size, most_fork_bytes}
use Rattle.volume_spec.specs.VolumeState.{Row as VolumeRow, Icon, Appl, root_id, first_id}
use Rattle.volume_spec.specs.Order.{stands_before}
use Rattle.volume_spec.specs.SoundVolume.{has_node, has_file, leads_to_root, are_named_alike, most_nodes, most_icons, most_appls, icon_key, appl_key}
use Rattle.record_keeper.specs.declared.record.Record.{Record}
use Rattle.volume_keeper_records.specs.declared.rows.Node.{Node}
use Rattle.volume_keeper_records.specs.declared.rows.BadRecord.{BadRecord}
use Rattle.volume_keeper_records.specs.declared.rows.Reason.{Reason}
use Rattle.volume_keeper_records.specs.declared.rows.Reason.TheVariants.{Shape, Parent, Twin, Range, Limit}
use Rattle.volume_keeper_records.specs.declared.rows.TableRow.{TableRow}
use Rattle.volume_keeper_records.specs.declared.rows.TableRow.TheVariants as row
use Rattle.volume_keeper_records.specs.Shape.{Label, bare_row, row_in, word_at}
use Rattle.volume_keeper_records.specs.Records.{version, old_version, head_key}
use Rattle.volume_keeper_records.specs.KeyOrder.{with_head_and_root}
use Rattle.volume_keeper_records.specs.Image.{Tables, tables_in}

-- what the records of a volume's shape say: a record of another shape is no node
abbrev pub rows_in : Label → List Record → List TableRow
rows_in name records = filter_map (row_in name) records

-- the nodes as rows of a volume
abbrev pub tree_of : Tables → List VolumeRow
tree_of t = map bare_row t.nodes

-- the length of a fork
abbrev pub fork_length : Bool → Node → ℕ
fork_length is_resource node = if is_resource then node.resource_length else node.data_length

-- the nodes up to one, by id; the icons and the APPL mappings up to one, by key
abbrev pub nodes_to : Node → Tables → List Node
nodes_to node t = filter (λ other. nat_le other.id node.id) t.nodes

abbrev pub icons_to : Icon → Tables → List Icon
icons_to icon t = filter (λ other. not (stands_before (icon_key icon) (icon_key other))) t.icons

abbrev pub appls_to : Appl → Tables → List Appl
appls_to appl t = filter (λ other. not (stands_before (appl_key appl) (appl_key other))) t.appls

-- Parent: a node other than the root whose parents do not lead to the root through directories; a block, comment or APPL mapping whose
-- node is not there, and for blocks and APPL mappings is no file
abbrev pub lacks_parent : Tables → TableRow → Bool
lacks_parent t (row.Node node) = not (node.id == root_id) && not (has_node (tree_of t) root_id && leads_to_root (tree_of t) (length (tree_of t)) node.parent)
lacks_parent t (row.Block block) = not (has_file (tree_of t) block.node)
lacks_parent t (row.Comment comment) = not (has_node (tree_of t) comment.node)
lacks_parent t (row.Appl appl) = not (has_file (tree_of t) appl.node)
lacks_parent t (row.Head head) = false
lacks_parent t (row.Icon icon) = false

-- Twin: a node with the parent and name key of a node of lower id
abbrev pub is_twin : Tables → TableRow → Bool
is_twin t (row.Node node) = list_any (λ other. nat_lt other.id node.id && are_named_alike (bare_row other) (bare_row node)) t.nodes
is_twin t _ = false

-- Range: an id below 17 that is not the root, or not below the next id; a block that reaches behind its fork's length
abbrev pub is_out_of_range : Tables → TableRow → Bool
is_out_of_range t (row.Node node) = not (node.id == root_id) && (nat_lt node.id first_id || nat_le t.head.next_id node.id)
is_out_of_range t (row.Block block) = list_any (λ node. (node.id == block.node) && nat_lt (fork_length block.is_resource node) (block_size * block.index + length block.bytes)) t.nodes
is_out_of_range t _ = false

-- Limit: the record with which the nodes, the sum of fork lengths, the icons or the APPL mappings pass their limit
abbrev pub passes_limit : Tables → TableRow → Bool
passes_limit t (row.Node node) = nat_lt most_nodes (length (nodes_to node t)) || nat_lt most_fork_bytes (sum_by (λ other. other.data_length + other.resource_length) (nodes_to node t))
passes_limit t (row.Icon icon) = nat_lt most_icons (length (icons_to icon t))
passes_limit t (row.Appl appl) = nat_lt most_appls (length (appls_to appl t))
passes_limit t _ = false

abbrev pub first_of : Bool → Reason → Option Reason → Option Reason
first_of holds reason other = if holds then Some reason else other

-- the first reason to refuse a record, among all records
abbrev pub reason_of : Tables → Option TableRow → Option Reason
reason_of t None = Some Shape
reason_of t (Some r) =
    first_of (lacks_parent t r) Parent
    (first_of (is_twin t r) Twin
    (first_of (is_out_of_range t r) Range
    (first_of (passes_limit t r) Limit None)))

abbrev pub bad_or : List ℕ → Option Reason → Option BadRecord → Option BadRecord
bad_or key None other = other
bad_or key (Some reason) other = Some (record { key = key; reason = reason })

-- the first of some records that is refused, by what all records say
abbrev pub first_in : Label → Tables → List Record → Option BadRecord
first_in name t [] = None
first_in name t (r ∷ records) = bad_or r.key (reason_of t (row_in name r)) (first_in name t records)

abbrev pub first_bad_among : Label → List Record → Option BadRecord
first_bad_among name records = first_in name (tables_in (rows_in name records)) records

-- a record with which a keeper passes that limit
abbrev pub too_many : List Record → Option BadRecord
too_many [] = None
too_many (r ∷ records) = Some (record { key = r.key; reason = Limit })

-- the value of the head's record, or an empty one
abbrev pub head_value : List Record → List ℕ
head_value records = unwrap_or (option_map (λ (r : Record). r.value) (find (λ (r : Record). bytes_eq r.key head_key) records)) []

-- records are of the older version where the head's value begins with its number, and else of the one that is written
abbrev pub version_in : List Record → ℕ
version_in records = if word_at (head_value records) 0 == old_version then old_version else version

abbrev pub label_of : List ℕ → List Record → Label
label_of name records = record { version = version_in records; name = name }

-- The first record by rising key that breaks a rule of a volume of that name, with the first rule. No record is no volume, and none is bad.
-- Where there are more than 480,000, the one behind them is refused with Limit, whatever stands before it.
abbrev pub first_bad_record : List ℕ → List Record → Option BadRecord
first_bad_record name [] = None
first_bad_record name (r ∷ records) =
    if nat_lt most_records (length (r ∷ records)) then too_many (drop most_records (r ∷ records)) else first_bad_among (label_of name (r ∷ records)) (with_head_and_root (r ∷ records))
