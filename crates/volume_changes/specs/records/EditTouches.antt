-- What each edit touches (this profile).
use Rattle.std.specs.Prelude.{ℕ, true, false, List, [], ◌∷◌, ◌++◌, map}
use Rattle.volume_spec.specs.Desktop.{creators_of}
use Rattle.volume_spec.specs.Edit.{Edit, Comes, Goes, Renames, Moves, Sets, Files, Writes, Exchanges, PutsIcon, PutsAppl, TakesAppl, Comments, BacksUp, edited}
use Rattle.volume_spec.specs.SoundVolume.{icon_key}
use Rattle.volume_spec.specs.VolumeState.{VolumeState}
use Rattle.volume_changes.specs.declared.records.touched.ForkPlace.{ForkPlace}
use Rattle.volume_changes.specs.records.Touched.{Touched}

-- what touches nothing
abbrev pub nothing : Touched
nothing = record { nodes = []; forks = []; comments = []; icons = []; appls = [] }

-- what touches the record of a node, and no more
abbrev pub node_alone : ℕ → Touched
node_alone id = record nothing { nodes = id ∷ [] }

-- both forks of a node
abbrev pub forks_of : ℕ → List ForkPlace
forks_of id = record { node = id; resource = false } ∷ record { node = id; resource = true } ∷ []

-- what an edit of a volume touches
abbrev pub touches : VolumeState → Edit → Touched
touches v (Comes row) = record nothing { nodes = v.next_id ∷ []; forks = forks_of v.next_id }
touches v (Goes id) = record { nodes = id ∷ []; forks = forks_of id; comments = id ∷ []; icons = []; appls = map (λ creator. record { creator = creator; node = id }) (creators_of id v.appls) }
touches v (Renames id name) = node_alone id
touches v (Moves id parent name) = node_alone id
touches v (Sets id settings) = node_alone id
touches v (Files id filed) = node_alone id
touches v (Writes now id resource bytes) = record nothing { nodes = id ∷ []; forks = record { node = id; resource = resource } ∷ [] }
touches v (Exchanges a b) = record nothing { nodes = a ∷ b ∷ []; forks = forks_of a ++ forks_of b }
touches v (PutsIcon icon) = record nothing { icons = icon_key icon ∷ [] }
touches v (PutsAppl appl) = record nothing { appls = record { creator = appl.creator; node = appl.node } ∷ [] }
touches v (TakesAppl creator node) = record nothing { appls = record { creator = creator; node = node } ∷ [] }
touches v (Comments node text) = record nothing { comments = node ∷ [] }
touches v (BacksUp date) = nothing

-- what one touches, or the other
abbrev pub joined : Touched → Touched → Touched
joined a b = record { nodes = a.nodes ++ b.nodes; forks = a.forks ++ b.forks; comments = a.comments ++ b.comments; icons = a.icons ++ b.icons; appls = a.appls ++ b.appls }

-- what edits touch, each where it comes
abbrev pub all_touched : VolumeState → List Edit → Touched
all_touched v [] = nothing
all_touched v (e ∷ es) = joined (touches v e) (all_touched (edited v e) es)
