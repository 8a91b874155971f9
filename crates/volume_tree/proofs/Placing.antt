-- Another name of a node, and that a node that was found is there.
use Rattle.std.proofs.Common.{◌≡◌, ap, ℕ, true, List, Option, Some, None}
use Rattle.std.specs.Prelude.{option_map, unwrap_or, ◌==◌}
use Rattle.afp_base.specs.Apart.{are_apart}
use Rattle.volume_spec.proofs.SoundEdits.{changed-same}
use Rattle.volume_spec.proofs.Walks.{row-there}
use Rattle.volume_spec.specs.Shared.{directory_of}
use Rattle.volume_spec.specs.Edits.{named, at_place, with_changed, bare}
use Rattle.volume_spec.specs.SoundVolume.{has_node}
use Rattle.volume_spec.specs.VolumeState.{Row, VolumeState}
use Rattle.volume_spec.specs.Walk.{row_at, parent_at}

-- another name in its directory is the same place with another name
pub renamed-is : (v : VolumeState) (id : ℕ) (name : List ℕ) → are_apart (λ (a b : Row). a.id == b.id) v.rows ≡ true → has_node v.rows id ≡ true → with_changed id (at_place (directory_of v.rows id) name) v.rows ≡ with_changed id (named name) v.rows
unfolding with_changed row_at parent_at
renamed-is v id name s there =
    let r = row-there v.rows id there in
    let parent : directory_of v.rows id ≡ r.0.parent = ap (λ (o : Option Row). unwrap_or (option_map (λ (row : Row). row.parent) o) 1) r.1 in
    changed-same v.rows id (at_place (directory_of v.rows id) name) (named name) r.0 s r.1 (ap (λ p. at_place p name r.0) parent)

pub never-missing : (rows : List Row) (id : ℕ) → has_node rows id ≡ true → None ≡ option_map bare (row_at rows id) → ⊥
never-missing rows id there none = let r = row-there rows id there in let some : option_map bare (row_at rows id) ≡ Some (bare r.0) = ap (option_map bare) r.1 in absurd (cc)
