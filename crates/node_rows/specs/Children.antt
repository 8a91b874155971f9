-- The children of directories in one list, by parent and key (AFP Reference, "Enumerate"; the form is this profile's).
use Rattle.std.specs.Prelude.{ℕ, List, ◌∷◌, map}
use Rattle.afp_base.specs.declared.ids.NodeId.{NodeId}
use Rattle.afp_names.specs.Name.{name_key}
use Rattle.volume_spec.specs.Order.{in_order}
use Rattle.volume_spec.specs.VolumeState.{Row}
use Rattle.node_rows.specs.declared.child.Child.{Child}

abbrev pub node_id : ℕ → NodeId
node_id n = record { 0 = n }

-- a row in its directory, by the key of its name
abbrev pub child_of : Row → Child
child_of row = record { parent = node_id row.parent; key = name_key row.name; id = node_id row.id }

-- what a child stands by: its parent, and then the bytes of its key
abbrev pub child_order : Child → List ℕ
child_order child = child.parent.0 ∷ child.key

-- one child for each row, by rising parent and then by key
abbrev pub children_of : List Row → List Child
children_of rows = in_order child_order (map child_of rows)
