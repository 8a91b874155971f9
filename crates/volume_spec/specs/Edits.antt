-- What calls do to the rows of a volume (AFP Reference, "Catalog node IDs"; the form is this profile's).
use Rattle.std.specs.Prelude.{ℕ, pos, zero, suc, ◌+◌, ◌==◌, Bool, false, not, ◌&&◌, ◌||◌, List, [], ◌∷◌, ◌++◌, Option, Some, None, map, bytes_eq, if◌then◌else◌}
use Rattle.std.specs.List.{filter, list_any}
use Rattle.afp_names.specs.Name.{name_key}
use Rattle.volume_spec.specs.VolumeState.{Row, Comment, Appl, VolumeState, new_row}

-- whether a node of this directory other than this one has a name with the key of that name
unfoldable pub is_taken : List Row → ℕ → ℕ → List ℕ → Bool
is_taken rows node dir name = list_any (λ row. not (row.id == node) && ((row.parent == dir) && bytes_eq (name_key row.name) (name_key name))) rows

-- whether this directory has children
unfoldable pub has_children : List Row → ℕ → Bool
has_children rows dir = list_any (λ row. row.parent == dir) rows

-- whether a node is this one, or below it in so many steps
abbrev pub is_below : List Row → ℕ → ℕ → ℕ → Bool
is_below rows zero node id = id == node
is_below rows (suc steps) node id = (id == node) || list_any (λ row. (row.id == id) && is_below rows steps node row.parent) rows

-- the rows, with a change of the node of this id
abbrev pub change_at : ℕ → (Row → Row) → Row → Row
change_at id change row = if row.id == id then change row else row

unfoldable pub with_changed : ℕ → (Row → Row) → List Row → List Row
with_changed id change rows = map (change_at id change) rows

-- the rows without the node of this id
unfoldable pub without : ℕ → List Row → List Row
without id rows = filter (λ row. not (row.id == id)) rows

-- a row with another parent and name
abbrev pub at_place : ℕ → List ℕ → Row → Row
at_place parent name row = record row { parent = parent; name = name }

-- a row with another modified date
abbrev pub modified_at : ℕ → Row → Row
modified_at now row = record row { modified = pos now }

-- a volume that was changed at a moment
abbrev pub changed_at : ℕ → VolumeState → VolumeState
changed_at now v = record v { modified = pos now }

-- a volume whose directory's children were changed at a moment
abbrev pub children_changed : ℕ → ℕ → VolumeState → VolumeState
children_changed now dir v = record v { rows = with_changed dir (modified_at now) v.rows }

-- a volume with one row more, which draws the next id
abbrev pub with_row : Row → VolumeState → VolumeState
with_row row v = record v { next_id = v.next_id + 1; rows = v.rows ++ (record row { id = v.next_id }) ∷ [] }

-- a volume with a new file or directory, made by a user
abbrev pub with_new : Bool → ℕ → ℕ → List ℕ → ℕ → VolumeState → VolumeState
with_new dir user parent name now v = with_row (new_row dir user v.next_id parent name now) v

-- a volume without a node, its comment and its APPL mappings
abbrev pub without_node : ℕ → VolumeState → VolumeState
without_node id v = record v {
  rows = without id v.rows;
  comments = filter (λ (comment : Comment). not (comment.node == id)) v.comments;
  appls = filter (λ (appl : Appl). not (appl.node == id)) v.appls;
}

-- a volume with a node at another place
abbrev pub with_moved : ℕ → ℕ → List ℕ → VolumeState → VolumeState
with_moved id parent name v = record v { rows = with_changed id (at_place parent name) v.rows }

-- a row with another name, and a volume with another name of a node
abbrev pub named : List ℕ → Row → Row
named name row = record row { name = name }

abbrev pub renamed : ℕ → List ℕ → VolumeState → VolumeState
renamed id name v = record v { rows = with_changed id (named name) v.rows }

-- what is said of a node's parent, where it has one
abbrev pub above : Option ℕ → (ℕ → Bool) → Bool
above None said = false
above (Some parent) said = said parent

-- whether a node that was found is another one
abbrev pub is_another : ℕ → Option ℕ → Bool
is_another node None = false
is_another node (Some found) = not (found == node)

-- another row
abbrev pub put : Row → Row → Row
put t row = t

-- a file with the forks and the modified date of another
abbrev pub with_forks_of : Row → Row → Row
with_forks_of from to = record to { modified = from.modified; data_fork = from.data_fork; resource_fork = from.resource_fork }

-- a volume whose two files have changed forks and modified dates
abbrev pub exchanged : ℕ → ℕ → Row → Row → VolumeState → VolumeState
exchanged a b s t v = record v { rows = with_changed b (put (with_forks_of s t)) (with_changed a (put (with_forks_of t s)) v.rows) }

-- two files that are there have changed forks and modified dates
abbrev pub exchanged_at : ℕ → ℕ → Option Row → Option Row → VolumeState → VolumeState
exchanged_at a b (Some s) (Some t) v = exchanged a b s t v
exchanged_at a b s t v = v

-- a row that is filed, or not
abbrev pub filed_as : Bool → Row → Row
filed_as filed row = record row { filed = filed }

-- a row with no bytes in its forks
abbrev pub bare : Row → Row
bare row = record row { data_fork = []; resource_fork = [] }
