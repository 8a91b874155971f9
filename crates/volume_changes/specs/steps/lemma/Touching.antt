-- What edits touch, as it is gathered edit by edit; no public contract cites it.
use Rattle.std.specs.Prelude.{ℕ, Bool, true, false, if◌then◌else◌, List, [], ◌∷◌, ◌++◌, map, Option, Some, None, option_map}
use Rattle.volume_spec.specs.Desktop.{creators_of}
use Rattle.volume_spec.specs.Edit.{Edit}
use Rattle.volume_spec.specs.VolumeState.{Appl}
use Rattle.volume_changes.specs.declared.records.touched.ForkPlace.{ForkPlace}
use Rattle.volume_changes.specs.declared.records.touched.Mapping.{Mapping}
use Rattle.volume_edits.specs.edits.Changed.{appl_changed, fork_changed, node_changed, node_gone, other_changed}
use Rattle.volume_changes.specs.steps.lemma.Put.{one_of}

-- the nodes of an edit
abbrev pub nodes_in : Edit → ℕ → List ℕ
nodes_in e next = one_of (node_changed e next) ++ one_of (other_changed e)

-- the one fork of a node, where the edit changes it
abbrev pub place_in : Edit → Bool → ℕ → List ForkPlace
place_in e resource id = if fork_changed e resource then record { node = id; resource = resource } ∷ [] else []

-- both forks of a node, as far as the edit changes them
abbrev pub places_in : Edit → Option ℕ → List ForkPlace
places_in e None = []
places_in e (Some id) = place_in e false id ++ place_in e true id

-- the forks of an edit
abbrev pub forks_in : Edit → ℕ → List ForkPlace
forks_in e next = places_in e (node_changed e next) ++ places_in e (other_changed e)

-- the mapping of an edit
abbrev pub mapping_of : List ℕ × ℕ → Mapping
mapping_of pair = record { creator = pair.0; node = pair.1 }

-- all mappings to a node
abbrev pub mappings_to : ℕ → List Appl → List Mapping
mappings_to id appls = map (λ creator. record { creator = creator; node = id }) (creators_of id appls)

abbrev pub mappings_gone : Option ℕ → List Appl → List Mapping
mappings_gone (Some id) appls = mappings_to id appls
mappings_gone None appls = []

-- the mappings of an edit, with those of a volume to the node that goes
abbrev pub appls_in : Edit → List Appl → List Mapping
appls_in e appls = one_of (option_map mapping_of (appl_changed e)) ++ mappings_gone (node_gone e) appls

-- those of edits, all of one volume
abbrev pub all_appls_in : List Edit → List Appl → List Mapping
all_appls_in [] appls = []
all_appls_in (e ∷ es) appls = appls_in e appls ++ all_appls_in es appls
