-- Within which keys two volumes differ (this profile).
use Rattle.std.specs.Prelude.{◌≡◌, ℕ, zero, suc, ◌+◌, ◌/◌, ◌==◌, Bool, false, ◌&&◌, List, [], ◌∷◌, ◌++◌, map, flat_map, Option, option_map, bytes_eq}
use Rattle.std.specs.Bool.{beq}
use Rattle.std.specs.List.{list_any}
use Rattle.afp_base.specs.Limits.{block_size, most_fork_bytes}
use Rattle.volume_spec.specs.Desktop.{appl_at, comment_at, icon_at}
use Rattle.volume_spec.specs.ForkEffect.{fork_of}
use Rattle.volume_spec.specs.VolumeState.{Row, VolumeState}
use Rattle.volume_spec.specs.Walk.{row_at}
use Rattle.volume_changes.specs.declared.records.touched.ForkPlace.{ForkPlace}
use Rattle.volume_changes.specs.declared.records.touched.Mapping.{Mapping}
use Rattle.volume_keeper_records.specs.Image.{node_of}
use Rattle.volume_keeper_records.specs.Records.{appl_record_key, block_key, comment_record_key, head_key, icon_tag, node_key, node_record, version}

-- the nodes whose records may differ, the forks whose blocks may, and the comments, icons and mappings
pub record Touched : Type 0 where
  pub nodes : List ℕ
  pub forks : List ForkPlace
  pub comments : List ℕ
  pub icons : List (List ℕ)
  pub appls : List Mapping

-- so many numbers from one on
abbrev pub numbers_from : ℕ → ℕ → List ℕ
numbers_from n zero = []
numbers_from n (suc more) = n ∷ numbers_from (n + 1) more

-- a fork has no more blocks
abbrev pub most_blocks : ℕ
most_blocks = most_fork_bytes / block_size

-- the keys of all blocks that a fork may have
unfoldable pub fork_keys : ForkPlace → List (List ℕ)
fork_keys place = map (block_key place.node place.resource) (numbers_from 0 most_blocks)

-- the keys that are touched: the head's always
abbrev pub keys_of : Touched → List (List ℕ)
keys_of t =
    head_key
    ∷ (map node_key t.nodes
    ++ (flat_map fork_keys t.forks
    ++ (map comment_record_key t.comments
    ++ (map (λ key. icon_tag ∷ key) t.icons
    ++ map (λ (m : Mapping). appl_record_key m.creator m.node) t.appls))))

-- what the record of a node has, where it is there
abbrev pub node_value : VolumeState → ℕ → Option (List ℕ)
node_value v id = option_map (λ (r : Row). (node_record (node_of version r)).value) (row_at v.rows id)

-- the bytes of a fork, where its node is there
abbrev pub bytes_at : VolumeState → ℕ → Bool → Option (List ℕ)
bytes_at v id resource = option_map (fork_of resource) (row_at v.rows id)

-- beyond what is touched the two volumes are one
pub record IsWithin (t : Touched) (v w : VolumeState) : Type 0 where
  pub nodes : (id : ℕ) → list_any (λ n. n == id) t.nodes ≡ false → node_value v id ≡ node_value w id
  pub forks : (id : ℕ) (resource : Bool) → list_any (λ (p : ForkPlace). (p.node == id) && beq p.resource resource) t.forks ≡ false → bytes_at v id resource ≡ bytes_at w id resource
  pub comments : (node : ℕ) → list_any (λ n. n == node) t.comments ≡ false → comment_at node v.comments ≡ comment_at node w.comments
  pub icons : (key : List ℕ) → list_any (λ k. bytes_eq k key) t.icons ≡ false → icon_at key v.icons ≡ icon_at key w.icons
  pub appls : (creator : List ℕ) (node : ℕ) → list_any (λ (m : Mapping). bytes_eq m.creator creator && (m.node == node)) t.appls ≡ false → appl_at creator node v.appls ≡ appl_at creator node w.appls

-- all that one touches is touched by the other
pub record HasAll (t other : Touched) : Type 0 where
  pub nodes : (id : ℕ) → list_any (λ n. n == id) t.nodes ≡ false → list_any (λ n. n == id) other.nodes ≡ false
  pub forks : (id : ℕ) (resource : Bool) → list_any (λ (p : ForkPlace). (p.node == id) && beq p.resource resource) t.forks ≡ false → list_any (λ (p : ForkPlace). (p.node == id) && beq p.resource resource) other.forks ≡ false
  pub comments : (node : ℕ) → list_any (λ n. n == node) t.comments ≡ false → list_any (λ n. n == node) other.comments ≡ false
  pub icons : (key : List ℕ) → list_any (λ k. bytes_eq k key) t.icons ≡ false → list_any (λ k. bytes_eq k key) other.icons ≡ false
  pub appls : (creator : List ℕ) (node : ℕ) → list_any (λ (m : Mapping). bytes_eq m.creator creator && (m.node == node)) t.appls ≡ false → list_any (λ (m : Mapping). bytes_eq m.creator creator && (m.node == node)) other.appls ≡ false
