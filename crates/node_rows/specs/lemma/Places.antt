-- Places of rows and of children, as the search finds them.
use Rattle.std.specs.Prelude.{◌≡◌, ℕ, ◌≤◌, Bool, not, ◌&&◌, ◌==◌, bytes_eq, List, length, ◌-◌, take, drop}
use Rattle.std.specs.List.{filter, position_or_len}
use Rattle.volume_spec.specs.Order.{stands_before}
use Rattle.volume_spec.specs.VolumeState.{Row}
use Rattle.node_rows.specs.Children.{child_of, child_order}
use Rattle.node_rows.specs.declared.child.Child.{Child}

-- whether a child has this parent and id
abbrev pub is_child_at : ℕ → ℕ → Child → Bool
is_child_at parent id child = (child.parent.0 == parent) && (child.id.0 == id)

-- whether a child is this node's
abbrev pub is_child : Row → Child → Bool
is_child row child = is_child_at row.parent row.id child && bytes_eq (child_order child) (child_order (child_of row))

-- whether a child has another id
abbrev pub is_other : ℕ → Child → Bool
is_other id child = not (child.id.0 == id)

-- whether a child has another parent or another key
abbrev pub is_apart : Child → Child → Bool
is_apart a b = not (bytes_eq (child_order a) (child_order b))

-- the place at which a child is put
abbrev pub place_for : Child → List Child → ℕ
place_for child children = position_or_len (λ c. not (stands_before (child_order c) (child_order child))) children

-- the children of a parent stand from this place on, and end before that one
pub record IsPart (children : List Child) (parent first behind : ℕ) : Type 0 where
  pub order : first ≤ behind
  pub within : behind ≤ length children
  pub part : take (behind - first) (drop first children) ≡ filter (λ child. child.parent.0 == parent) children
