-- What a pass over records by rising key knows, for private contracts.
use Rattle.std.specs.Prelude.{◌≡◌, ℕ, ◌+◌, ◌*◌, ◌<◌, ◌≤◌, ◌^◌, ◌&&◌, ◌||◌, ◌==◌, ◌++◌, nat_le, nat_lt, not, bytes_eq, Bool, true, false, List, [], ◌∷◌, map, length, sum_by, Option, Some, None, Vec}
use Rattle.std.specs.List.{list_any, filter_map}
use Rattle.std.specs.List.Sorted.{IsStrictlySortedBy}
use Rattle.std.specs.BTreeSet.{BTreeSet, contains_by}
use Rattle.std.specs.Cmp.Lexicographic.{slice_cmp}
use Rattle.std.specs.Ordering.{nat_cmp, ordering_then}
use Rattle.std.specs.declared.alloc.Global.{Global}
use Rattle.afp_base.specs.Limits.{block_size, most_fork_bytes}
use Rattle.afp_names.specs.Name.{name_fault, name_key}
use Rattle.volume_spec.specs.VolumeState.{root_id, first_id}
use Rattle.volume_spec.specs.SoundVolume.{most_nodes, most_icons, most_appls}
use Rattle.volume_keeper_records.specs.declared.tree.Place.{Place}
use Rattle.volume_keeper_records.specs.declared.tree.Tree.{Tree}
use Rattle.volume_keeper_records.specs.declared.judge.Pass.{Pass}
use Rattle.volume_keeper_records.specs.declared.rows.Node.{Node}
use Rattle.volume_keeper_records.specs.declared.rows.Reason.{Reason}
use Rattle.volume_keeper_records.specs.declared.rows.Reason.TheVariants.{Shape, Parent, Twin, Range, Limit}
use Rattle.volume_keeper_records.specs.declared.rows.TableRow.{TableRow}
use Rattle.volume_keeper_records.specs.declared.rows.TableRow.TheVariants as row
use Rattle.volume_keeper_records.specs.FirstBad.{first_of}
use Rattle.volume_keeper_records.specs.lemma.Climb.{id_of, climbs_to_root, EndsAt}

-- where a node stands, and how long its forks are
abbrev pub place_of : Node → Place
place_of node = record { id = node.id; is_directory = node.is_directory; parent = node.parent; data_length = node.data_length; resource_length = node.resource_length }

abbrev pub said_node : Option TableRow → Option Node
said_node (Some (row.Node node)) = Some node
said_node _ = None

-- the places of the nodes among what records say
abbrev pub places_in : List (Option TableRow) → List Place
places_in rows = map place_of (filter_map said_node rows)

-- the tree's lists belong together
pub record IsTree (tree : Tree) : Type 0 where
  pub ids : tree.ids.items ≡ map id_of tree.places.items
  pub order : IsStrictlySortedBy nat_cmp tree.ids.items
  pub ends : EndsAt tree.places.items tree.ids.items tree.ends.items
  pub room : length tree.ids.items < 2 ^ 60

pub record IsTreeOf (places : List Place) (tree : Tree) : Type 0 where
  pub same : tree.places.items ≡ places
  pub sound : IsTree tree

-- what a test says of a place that was found
abbrev pub told : (Place → Bool) → Option Place → Bool
told test None = false
told test (Some place) = test place

abbrev pub is_there : List Place → ℕ → Bool
is_there places id = list_any (λ place. place.id == id) places

abbrev pub is_file_there : List Place → ℕ → Bool
is_file_there places id = list_any (λ place. (place.id == id) && not place.is_directory) places

abbrev pub length_of : Bool → Place → ℕ
length_of true place = place.resource_length
length_of false place = place.data_length

-- Parent, by places
abbrev pub is_stray_here : List Place → TableRow → Bool
is_stray_here places (row.Node node) = not (node.id == root_id) && not (is_there places root_id && climbs_to_root places (length places) node.parent)
is_stray_here places (row.Block block) = not (is_file_there places block.node)
is_stray_here places (row.Comment comment) = not (is_there places comment.node)
is_stray_here places (row.Appl appl) = not (is_file_there places appl.node)
is_stray_here places (row.Head head) = false
is_stray_here places (row.Icon icon) = false

-- Range, by places
abbrev pub is_outside_here : List Place → ℕ → TableRow → Bool
is_outside_here places next (row.Node node) = not (node.id == root_id) && (nat_lt node.id first_id || nat_le next node.id)
is_outside_here places next (row.Block block) = list_any (λ place. (place.id == block.node) && nat_lt (length_of block.is_resource place) (block_size * block.index + length block.bytes)) places
is_outside_here places next _ = false

-- what stands before a row: the nodes, and how many icons and APPL mappings
pub record Before : Type 0 where
  pub nodes : List Node
  pub icons : ℕ
  pub appls : ℕ

-- Twin and Limit, by what stands before
abbrev pub is_twin_here : Before → TableRow → Bool
is_twin_here before (row.Node node) = list_any (λ (other : Node). (node.parent == other.parent) && bytes_eq (name_key node.name) (name_key other.name)) before.nodes
is_twin_here before _ = false

abbrev pub fork_sum : List Node → ℕ
fork_sum nodes = sum_by (λ (other : Node). other.data_length + other.resource_length) nodes

abbrev pub is_over_here : Before → TableRow → Bool
is_over_here before (row.Node node) = nat_lt most_nodes (length before.nodes + 1) || nat_lt most_fork_bytes (fork_sum before.nodes + (node.data_length + node.resource_length))
is_over_here before (row.Icon icon) = nat_lt most_icons (before.icons + 1)
is_over_here before (row.Appl appl) = nat_lt most_appls (before.appls + 1)
is_over_here before _ = false

-- the first reason to refuse a record, by the places of all nodes and the rows before
abbrev pub reason_here : List Place → ℕ → Before → Option TableRow → Option Reason
reason_here places next before None = Some Shape
reason_here places next before (Some r) =
    first_of (is_stray_here places r) Parent
    (first_of (is_twin_here before r) Twin
    (first_of (is_outside_here places next r) Range
    (first_of (is_over_here before r) Limit None)))

-- whether a directory has a name with a key among those that were seen
abbrev pub has_seen : BTreeSet (ℕ × Vec ℕ Global) → ℕ → List ℕ → Bool
has_seen set parent key = contains_by (λ k. ordering_then (nat_cmp parent k.0) (slice_cmp nat_cmp key k.1.items)) set

-- what stands before is what was seen
pub record HasBefore (before : Before) (pass : Pass) : Type 0 where
  pub seen : (p : ℕ) (key : List ℕ) → has_seen pass.seen p key ≡ list_any (λ (other : Node). (p == other.parent) && bytes_eq key (name_key other.name)) before.nodes
  pub nodes : pass.nodes ≡ length before.nodes
  pub bytes : pass.bytes ≡ fork_sum before.nodes
  pub icons : pass.icons ≡ before.icons
  pub appls : pass.appls ≡ before.appls

-- what a pass keeps
pub record KeepsTree (old new : Pass) : Type 0 where
  pub tree : new.tree ≡ old.tree
  pub next : new.next ≡ old.next
  pub few : new.bytes ≤ most_fork_bytes

-- the node of a row has a name
abbrev pub IsNamedRow : Option TableRow → Type 0
IsNamedRow (Some (row.Node node)) = name_fault node.name ≡ None
IsNamedRow _ = Unit {0}

-- the block of a row is short
abbrev pub is_short_row : Option TableRow → Bool
is_short_row (Some (row.Block block)) = nat_lt (length block.bytes) 5000
is_short_row _ = true

-- with one row more
abbrev pub and_row : Before → Option TableRow → Before
and_row before (Some (row.Node node)) = record before { nodes = before.nodes ++ node ∷ [] }
and_row before (Some (row.Icon icon)) = record before { icons = before.icons + 1 }
and_row before (Some (row.Appl appl)) = record before { appls = before.appls + 1 }
and_row before _ = before

-- the reasons behind Parent; a row that is not refused has been seen
pub record IsJudged (old : Pass) (before : Before) (r : TableRow) (reason : Option Reason) (new : Pass) : Type 0 where
  pub why : reason ≡ first_of (is_twin_here before r) Twin (first_of (is_outside_here old.tree.places.items old.next r) Range (first_of (is_over_here before r) Limit None))
  pub after : reason ≡ None → HasBefore (and_row before (Some r)) new

-- the first reason; a row that is not refused has been seen
pub record IsJudgedRow (old : Pass) (before : Before) (o : Option TableRow) (reason : Option Reason) (new : Pass) : Type 0 where
  pub why : reason ≡ reason_here old.tree.places.items old.next before o
  pub after : reason ≡ None → HasBefore (and_row before o) new

-- the next id that the first head says, or 0
abbrev pub next_or : Option TableRow → ℕ → ℕ
next_or (Some (row.Head head)) other = head.next_id
next_or _ other = other

abbrev pub next_in : List (Option TableRow) → ℕ
next_in [] = 0
next_in (o ∷ rows) = next_or o (next_in rows)

-- what records say, without those that are of no shape
unfoldable pub said_rows : List (Option TableRow) → List TableRow
said_rows rows = filter_map (λ o. o) rows
