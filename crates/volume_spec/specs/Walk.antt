-- Walking a path through the tree of a volume (AFP Reference, "Pathnames"; which code is given is this profile's).
use Rattle.std.specs.Prelude.{ℕ, ◌==◌, Bool, true, ◌&&◌, List, [], ◌∷◌, Option, Some, None, Result, Ok, Err, option_map, is_none, if◌then◌else◌, bytes_eq}
use Rattle.std.specs.List.{find, list_any, list_all}
use Rattle.afp_base.specs.declared.code.Code.{Code}
use Rattle.afp_base.specs.declared.code.Code.TheVariants.{AccessDenied, ObjectNotFound, DirNotFound, ParamErr}
use Rattle.afp_names.specs.Name.{name_key, name_fault}
use Rattle.afp_names.specs.LongName.{long_name_of}
use Rattle.afp_names.specs.Path.{long_names, PathValue, element_of}
use Rattle.afp_names.specs.declared.path.Step.{Step}
use Rattle.afp_names.specs.declared.path.Step.TheVariants.{Up, Down}
use Rattle.volume_spec.specs.Rights.{is_closed}
use Rattle.volume_spec.specs.VolumeState.{Row, root_parent}

-- whether this id is a directory's
abbrev pub has_directory : List Row → ℕ → Bool
has_directory rows id = list_any (λ row. (row.id == id) && row.dir) rows

-- the node of this id
unfoldable pub row_at : List Row → ℕ → Option Row
row_at rows id = find (λ row. row.id == id) rows

-- the directory in which the node of this id is
unfoldable pub parent_at : List Row → ℕ → Option ℕ
parent_at rows id = option_map (λ (row : Row). row.parent) (row_at rows id)

-- the child of this directory whose name has this key
unfoldable pub child_by_key : List Row → ℕ → List ℕ → Option ℕ
child_by_key rows dir key = option_map (λ (row : Row). row.id) (find (λ row. (row.parent == dir) && bytes_eq (name_key row.name) key) rows)

-- the child of this directory with this long name
unfoldable pub child_by_long_name : List Row → ℕ → List ℕ → Option ℕ
child_by_long_name rows dir element = option_map (λ (row : Row). row.id) (find (λ row. (row.parent == dir) && bytes_eq (long_name_of row.name row.id) element) rows)

-- the first that is there
abbrev pub or_else : Option ℕ → Option ℕ → Option ℕ
or_else (Some id) other = Some id
or_else None other = other

-- the child to which a step down leads: that with the name's key; where there is none and names are long names, that with the long name
unfoldable pub child : List Row → ℕ → ℕ → List ℕ → Option ℕ
child rows kind dir name = or_else (child_by_key rows dir (name_key name))
    (if kind == long_names then child_by_long_name rows dir (element_of kind name) else None)

-- A step down that fails: the directory is not there where further steps follow; after the last step `missing` is answered.
abbrev pub failed_down : Code → List Step → Code
failed_down missing [] = missing
failed_down missing (step ∷ steps) = DirNotFound

-- on from the node that was found
abbrev pub onward : Option ℕ → Code → (ℕ → Result ℕ Code) → Result ℕ Code
onward (Some id) code rest = rest id
onward None code rest = Err code

-- down from a directory, where the user may search it: it is denied before the child is looked for
abbrev pub unless_closed : Bool → Result ℕ Code → Result ℕ Code
unless_closed closed goes = if closed then Err AccessDenied else goes

-- Where steps lead a user from a node, or why they lead nowhere. Up goes to the parent, and not from the root's parent; down goes to a child.
abbrev pub walk_from : List Row → ℕ → ℕ → Code → List Step → ℕ → Result ℕ Code
walk_from rows user kind missing [] here = Ok here
walk_from rows user kind missing (Up ∷ steps) here = onward (parent_at rows here) ObjectNotFound (walk_from rows user kind missing steps)
walk_from rows user kind missing (Down name ∷ steps) here = unless_closed (is_closed rows user here) (onward (child rows kind here name) (failed_down missing steps) (walk_from rows user kind missing steps))

-- a walk that ends at the root's parent finds no object
abbrev pub not_above_root : Result ℕ Code → Result ℕ Code
not_above_root (Ok id) = if id == root_parent then Err ObjectNotFound else Ok id
not_above_root (Err code) = Err code

-- whether a walk may start at this id: at the root's parent, or at a directory
abbrev pub is_start : List Row → ℕ → Bool
is_start rows dir = if dir == root_parent then true else has_directory rows dir

-- the node to which steps lead a user from a directory, or why they lead nowhere
unfoldable pub walk : List Row → ℕ → ℕ → Code → ℕ → List Step → Result ℕ Code
walk rows user kind missing dir steps = if is_start rows dir then not_above_root (walk_from rows user kind missing steps dir) else Err DirNotFound

-- where a path leads a user from a directory
abbrev pub found : List Row → ℕ → ℕ → PathValue → Result ℕ Code
found rows user dir path = walk rows user path.kind ObjectNotFound dir path.steps

-- all steps but the last, and the name to which the last goes down
abbrev pub before_down : List Step → Option (List Step × List ℕ)
before_down [] = None
before_down (Up ∷ []) = None
before_down (Down name ∷ []) = Some ([], name)
before_down (step ∷ next ∷ steps) = option_map (λ (split : List Step × List ℕ). (step ∷ split.0, split.1)) (before_down (next ∷ steps))

-- a place for a node: a directory, and a name in it
pub record Place : Type 0 where
  pub dir : ℕ
  pub name : List ℕ

-- a name in the directory to which the steps before it lead
abbrev pub named_in : List Row → List ℕ → Result ℕ Code → Result Place Code
named_in rows name (Ok dir) = if has_directory rows dir then Ok (record { dir = dir; name = name }) else Err DirNotFound
named_in rows name (Err code) = Err code

-- the place of the last step, where that goes down
abbrev pub place_behind : List Row → ℕ → ℕ → ℕ → Option (List Step × List ℕ) → Result Place Code
place_behind rows user kind dir None = Err ParamErr
place_behind rows user kind dir (Some split) = named_in rows split.1 (walk rows user kind DirNotFound dir split.0)

-- the new place that a path names from a directory
unfoldable pub new_place : List Row → ℕ → ℕ → PathValue → Result Place Code
new_place rows user dir path = place_behind rows user path.kind dir (before_down path.steps)

-- a new name: a path of just one step down
abbrev pub one_down : List Step → Result (List ℕ) Code
one_down (Down name ∷ []) = Ok name
one_down steps = Err ParamErr

-- a new name, or the old one where the path is empty
abbrev pub one_down_or : List ℕ → List Step → Result (List ℕ) Code
one_down_or old [] = Ok old
one_down_or old (Down name ∷ []) = Ok name
one_down_or old steps = Err ParamErr

-- whether a step down is to a name
abbrev pub is_named_step : Step → Bool
is_named_step Up = true
is_named_step (Down name) = is_none (name_fault name)

-- a path whose steps down are to names, as that of every request is
abbrev pub is_named_path : PathValue → Bool
is_named_path path = list_all is_named_step path.steps
