-- Edits that are planned (this profile).
use Rattle.std.specs.Prelude.{◌≡◌, ℕ, ◌+◌, Bool, true, false, not, List, [], ◌∷◌, map, Some}
use Rattle.std.specs.List.{list_all}
use Rattle.volume_spec.specs.Edit.{Edit, Comes, Writes, PutsIcon, PutsAppl, Comments, edited}
use Rattle.volume_spec.specs.VolumeState.{VolumeState}
use Rattle.volume_tree.specs.Shown.{fork_at}

-- an edit, and the bytes before it of the fork that it writes
pub record EditValue : Type 0 where
  pub edit : Edit
  pub before : List ℕ

-- an edit that writes no fork
abbrev pub plain : Edit → EditValue
plain edit = record { edit = edit; before = [] }

-- the edits alone
abbrev pub edits_of : List EditValue → List Edit
edits_of edits = map (λ (e : EditValue). e.edit) edits

-- where an edit writes a fork, the fork has the bytes that it is to have before it
abbrev pub StandsOn : VolumeState → Edit → List ℕ → Type 0
StandsOn v (Writes now id resource bytes) before = fork_at v.rows id resource ≡ Some before
StandsOn v e before = Unit {0}

-- so does each of these edits where it comes
abbrev pub StandOn : VolumeState → List EditValue → Type 0
StandOn v [] = Unit {0}
StandOn v (e ∷ es) = StandsOn v e.edit e.before × StandOn (edited v e.edit) es

-- how many edits take room: a node that comes, and what is put into the desktop database
abbrev pub takes : Edit → ℕ
takes (Comes row) = 1
takes (PutsIcon icon) = 1
takes (PutsAppl appl) = 1
takes (Comments node text) = 1
takes e = 0

abbrev pub all_take : List EditValue → ℕ
all_take [] = 0
all_take (e ∷ es) = takes e.edit + all_take es

-- whether an edit writes a fork
abbrev pub does_write : Edit → Bool
does_write (Writes now id resource bytes) = true
does_write e = false

-- none of these edits writes a fork
abbrev pub write_none : List EditValue → Bool
write_none edits = list_all (λ (e : EditValue). not (does_write e.edit)) edits

-- no other edit stands beside a write of a fork
abbrev pub writes_alone : List EditValue → Bool
writes_alone [] = true
writes_alone (e ∷ []) = true
writes_alone (e ∷ f ∷ es) = write_none (e ∷ f ∷ es)

-- a moment, and the edits that are made one after the other
pub record PlanValue : Type 0 where
  pub moment : ℕ
  pub edits : List EditValue
