-- What an edit does to one node, told of the nodes before it (this profile).
use Rattle.std.specs.Prelude.{◌≡◌, ℕ, ◌==◌, Bool, true, List, [], Option, Some, None, option_map, unwrap_or, if◌then◌else◌}
use Rattle.volume_spec.specs.Edit.{Edit, Comes, Goes, Renames, Moves, Sets, Files, Writes, Exchanges, edited}
use Rattle.volume_spec.specs.EditLaws.{MayEdit}
use Rattle.volume_spec.specs.Edits.{at_place, change_at, filed_as, named, with_forks_of}
use Rattle.volume_spec.specs.ForkEffect.{fork_of, written}
use Rattle.volume_spec.specs.SetFileDirParms.{with_settings}
use Rattle.volume_spec.specs.SoundVolume.{IsSoundVolume}
use Rattle.volume_spec.specs.VolumeState.{Row, VolumeState}
use Rattle.volume_spec.specs.Walk.{row_at}

-- a file with the forks and the modified date of another, where both are there
abbrev pub exchanged_row : Option Row → Option Row → Option Row
exchanged_row (Some from) (Some to) = Some (with_forks_of from to)
exchanged_row from to = to

-- the row of a node behind an edit
abbrev pub row_then : VolumeState → Edit → ℕ → Option Row
row_then v (Comes row) id = if id == v.next_id then Some (record row { id = v.next_id }) else row_at v.rows id
row_then v (Goes gone) id = if id == gone then None else row_at v.rows id
row_then v (Renames node name) id = option_map (change_at node (named name)) (row_at v.rows id)
row_then v (Moves node parent name) id = option_map (change_at node (at_place parent name)) (row_at v.rows id)
row_then v (Sets node settings) id = option_map (change_at node (with_settings settings)) (row_at v.rows id)
row_then v (Files node filed) id = option_map (change_at node (filed_as filed)) (row_at v.rows id)
row_then v (Writes now node resource bytes) id = option_map (change_at node (written now resource bytes true)) (row_at v.rows id)
row_then v (Exchanges a b) id = if id == a then exchanged_row (row_at v.rows b) (row_at v.rows a) else if id == b then exchanged_row (row_at v.rows a) (row_at v.rows b) else row_at v.rows id
row_then v e id = row_at v.rows id

-- each node behind an edit that may be made is what the edit does to it
abbrev pub EditsByNode : Type 0
EditsByNode = (v : VolumeState) (e : Edit) (id : ℕ) → IsSoundVolume v → MayEdit v e → row_at (edited v e).rows id ≡ row_then v e id

-- the bytes of a fork of a node, none where the node is not there
abbrev pub bytes_of : Bool → Option Row → List ℕ
bytes_of resource row = unwrap_or (option_map (fork_of resource) row) []
