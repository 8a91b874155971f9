-- What the calls on one volume share: how refusals stand behind one another, open forks, attributes, room (AFP Reference, "Directory
-- commands", "File commands"; the order of refusals is this profile's). `opens` are the volume's open forks.
use Rattle.std.specs.Prelude.{ℕ, ◌==◌, Bool, not, ◌&&◌, ◌||◌, List, [], ◌∷◌, length, Option, Some, None, Result, Ok, Err, option_map, unwrap_or, nat_le, bit_and, if◌then◌else◌}
use Rattle.std.specs.List.{list_any}
use Rattle.afp_base.specs.declared.code.Code.{Code}
use Rattle.afp_names.specs.Path.{PathValue}
use Rattle.volume_spec.specs.Rights.{lacks}
use Rattle.volume_spec.specs.VolumeState.{Row, VolumeState, root_id, root_parent}
use Rattle.volume_spec.specs.SoundVolume.{most_nodes, last_next_id}
use Rattle.volume_spec.specs.Walk.{Place, found, row_at, parent_at}
use Rattle.volume_spec.specs.Edits.{changed_at, children_changed, with_new}

-- an open fork of a volume
pub record Opened : Type 0 where
  pub node : ℕ
  pub resource : Bool

-- what is refused behind a walk: the walk's code, or what is refused of what it found
abbrev pub behind : {A : Type 0} → Result A Code → (A → Option Code) → Option Code
behind (Ok at_end) refused = refused at_end
behind (Err code) refused = Some code

-- what is done with what a walk found, and nothing where it found nothing
abbrev pub done_at : {A B : Type 0} → Result A Code → B → (A → B) → B
done_at (Ok at_end) old does = does at_end
done_at (Err code) old does = old

-- the id of the node to which a path leads a user from a directory, if it leads to one
abbrev pub found_id : VolumeState → ℕ → ℕ → PathValue → Option ℕ
found_id v user dir path = done_at (found v.rows user dir path) None Some

-- the code of the first of these rows that holds, or what is refused behind them
abbrev pub first_or : List (Bool × Code) → Option Code → Option Code
first_or [] rest = rest
first_or (row ∷ rows) rest = if row.0 then Some row.1 else first_or rows rest

-- what is refused first, or else what is refused behind it, if something is
abbrev pub refused_else : Option Code → Option Code → Option Code
refused_else None first = first
refused_else (Some code) None = Some code
refused_else (Some code) (Some other) = Some other

-- attributes by bit (AFP Reference, "File attributes")
abbrev pub write_inhibit : ℕ
write_inhibit = 0x0020

abbrev pub rename_inhibit : ℕ
rename_inhibit = 0x0080

abbrev pub delete_inhibit : ℕ
delete_inhibit = 0x0100

-- whether the node of this id has this attribute
unfoldable pub has_attribute : List Row → ℕ → ℕ → Bool
has_attribute rows bit id = list_any (λ row. (row.id == id) && not (bit_and row.attributes bit == 0)) rows

-- whether a fork of this node is open
unfoldable pub is_busy : List Opened → ℕ → Bool
is_busy opens id = list_any (λ open_fork. open_fork.node == id) opens

-- whether the ids have ended, or the volume is full
unfoldable pub has_no_ids : VolumeState → Bool
has_no_ids v = nat_le last_next_id v.next_id

unfoldable pub has_no_room : VolumeState → Bool
has_no_room v = nat_le most_nodes (length v.rows) || has_no_ids v

-- the directory of a node
abbrev pub directory_of : List Row → ℕ → ℕ
directory_of rows id = unwrap_or (parent_at rows id) root_parent

-- whether a user lacks a right in the directory of a node; the root's is the root here
abbrev pub lacks_above : List Row → ℕ → ℕ → ℕ → Bool
lacks_above rows user right id = lacks rows user right (if id == root_id then root_id else directory_of rows id)

-- the name of a node
abbrev pub name_of : List Row → ℕ → List ℕ
name_of rows id = unwrap_or (option_map (λ (row : Row). row.name) (row_at rows id)) []

-- a volume with a new node at a place, made by a user
abbrev pub created : Bool → ℕ → ℕ → VolumeState → Place → VolumeState
created dir user now v place = changed_at now (children_changed now place.dir (with_new dir user place.dir place.name now v))
