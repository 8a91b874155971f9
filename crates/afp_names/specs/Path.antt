-- Paths (AFP Reference, "Pathnames"; the edges of reading are this profile's).
use Rattle.std.specs.Prelude.{ℕ, zero, suc, ◌≡◌, ◌≤◌, ◌-◌, ◌==◌, ◌||◌, Bool, false, not, List, [], ◌∷◌, ◌++◌, length, map, flat_map, replicate, Option, Some, None, is_none, nat_le, if◌then◌else◌, chars}
use Rattle.std.specs.List.{list_any}
use Rattle.afp_names.specs.declared.path.PathFault.{PathFault}
use Rattle.afp_names.specs.declared.path.PathFault.TheVariants.{Kind, Element}
use Rattle.afp_names.specs.declared.path.Step.{Step}
use Rattle.afp_names.specs.declared.path.Step.TheVariants.{Up, Down}
use Rattle.afp_base.specs.Choice.{first_holding}
use Rattle.afp_names.specs.Name.{name_fault}
use Rattle.afp_names.specs.MacRoman.{mac_roman_text}
use Rattle.afp_names.specs.LongName.{longest_long_name, shown_byte}

-- the kinds of paths: of long names, and of names in UTF-8 (AFP Reference, "Pathnames")
abbrev pub long_names : ℕ
long_names = 2

abbrev pub utf8_names : ℕ
utf8_names = 3

-- how a path's names are spelt, and its steps
pub record PathValue : Type 0 where
  pub kind : ℕ
  pub steps : List Step

-- a run of bytes: so many zero bytes, or an element, which has no zero byte
pub data Run : Type 0 where
  ZeroRun : ℕ → Run
  ElementRun : List ℕ → Run

-- runs with one byte more before them
abbrev pub onto_runs : ℕ → List Run → List Run
onto_runs zero (ZeroRun k ∷ rest) = ZeroRun (suc k) ∷ rest
onto_runs zero rest = ZeroRun 1 ∷ rest
onto_runs (suc b) (ElementRun bytes ∷ rest) = ElementRun (suc b ∷ bytes) ∷ rest
onto_runs (suc b) rest = ElementRun (suc b ∷ []) ∷ rest

-- the runs that bytes split into
unfoldable pub runs : List ℕ → List Run
runs [] = []
runs (b ∷ bytes) = onto_runs b (runs bytes)

-- whether an element spells a name: in kind 2 at most 31 bytes of the long names' character set, in kind 3 a name
unfoldable pub is_element : ℕ → List ℕ → Bool
is_element kind bytes = if kind == long_names then nat_le (length bytes) longest_long_name else is_none (name_fault bytes)

-- the name that an element spells
unfoldable pub element_name : ℕ → List ℕ → List ℕ
element_name kind bytes = if kind == long_names then mac_roman_text bytes else bytes

-- whether a run is an element that spells no name
abbrev pub is_bad_run : ℕ → Run → Bool
is_bad_run kind (ZeroRun k) = false
is_bad_run kind (ElementRun bytes) = not (is_element kind bytes)

-- whether some element spells no name
unfoldable pub has_bad_element : ℕ → List ℕ → Bool
has_bad_element kind bytes = list_any (is_bad_run kind) (runs bytes)

-- a run of k zero bytes goes up k - 1 times, and an element down once
abbrev pub run_steps : ℕ → Run → List Step
run_steps kind (ZeroRun k) = replicate (k - 1) Up
run_steps kind (ElementRun bytes) = Down (element_name kind bytes) ∷ []

-- why bytes are no path of that kind: the first of these rows that holds
unfoldable pub path_fault : ℕ → List ℕ → Option PathFault
path_fault kind bytes = first_holding (
    (not (kind == long_names || kind == utf8_names), Kind)
    ∷ (has_bad_element kind bytes, Element)
    ∷ [])

-- the steps of each run, one after another
unfoldable pub path_steps : ℕ → List ℕ → List Step
path_steps kind bytes = flat_map (run_steps kind) (runs bytes)

-- the bytes are read as the path
pub record SpellsPath (bytes : List ℕ) (path : PathValue) : Type 0 where
  pub no_fault : path_fault path.kind bytes ≡ None
  pub steps : path_steps path.kind bytes ≡ path.steps

-- the element by which a step down to a name is spelt
unfoldable pub element_of : ℕ → List ℕ → List ℕ
element_of kind name = if kind == long_names then map shown_byte (chars name) else name

-- the bytes of a step behind the step before it: a zero byte parts two names, and k steps up have k + 1 zero bytes
abbrev pub step_bytes : ℕ → Option Step → Step → List ℕ
step_bytes kind (Some Up) Up = 0 ∷ []
step_bytes kind (Some (Down name)) Up = 0 ∷ 0 ∷ []
step_bytes kind None Up = 0 ∷ 0 ∷ []
step_bytes kind (Some Up) (Down name) = element_of kind name
step_bytes kind (Some (Down before)) (Down name) = 0 ∷ element_of kind name
step_bytes kind None (Down name) = element_of kind name

-- the bytes of steps behind the step before them
abbrev pub steps_bytes : ℕ → Option Step → List Step → List ℕ
steps_bytes kind before [] = []
steps_bytes kind before (step ∷ steps) = step_bytes kind before step ++ steps_bytes kind (Some step) steps

-- the canonical spelling of a path, which is its shortest
unfoldable pub canonical_path : PathValue → List ℕ
canonical_path path = steps_bytes path.kind None path.steps

-- the most bytes of a path, since its length is sent in one byte where it is of long names, and else in two
abbrev pub longest_long_path : ℕ
longest_long_path = 255

abbrev pub longest_utf8_path : ℕ
longest_utf8_path = 65535

abbrev pub longest_path : ℕ → ℕ
longest_path kind = if kind == long_names then longest_long_path else longest_utf8_path

-- a path: its canonical spelling may be sent, and is read as it again
pub record IsPath (path : PathValue) : Type 0 where
  pub fits : length (canonical_path path) ≤ longest_path path.kind
  pub spelt : SpellsPath (canonical_path path) path
