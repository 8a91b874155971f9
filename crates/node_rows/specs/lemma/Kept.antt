-- What the code and the proofs go by beside Kept; no public contract cites it.
use Rattle.std.specs.Prelude.{◌≡◌, ℕ, ◌≤◌, nat_lt, Bool, true, List}
use Rattle.std.specs.List.{list_all}
use Rattle.volume_spec.specs.Order.{rises}
use Rattle.volume_spec.specs.SoundVolume.{has_rising_ids, last_next_id}
use Rattle.volume_spec.specs.VolumeState.{Row, first_id}
use Rattle.node_rows.specs.Children.{child_order, children_of}
use Rattle.node_rows.specs.lemma.Kinds.{child_kinds}
use Rattle.node_rows.specs.declared.child.Child.{Child}

-- the nodes stand by rising id, below the next id; the children are theirs, in order
pub record AreKept (rows : List Row) (children : List Child) (next : ℕ) : Type 0 where
  pub rising : has_rising_ids rows ≡ true
  pub order : rises child_order children ≡ true
  pub sorted : children ≡ children_of rows
  pub below : list_all (λ row. nat_lt row.id next) rows ≡ true
  pub low : first_id ≤ next
  pub high : next ≤ last_next_id

-- the same, and the kinds are those of the children
pub record AreAllKept (rows : List Row) (children : List Child) (kinds : List Bool) (next : ℕ) : Type 0 where
  pub kept : AreKept rows children next
  pub kinds_are : kinds ≡ child_kinds rows children
