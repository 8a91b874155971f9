-- The changes between two sound volumes that are one beyond what is touched.
use Rattle.std.proofs.Common.{◌≡◌, refl, ℕ, ◌+◌, ◌≤◌, arith, Bool, true, not, List, [], length}
use Rattle.std.specs.Prelude.{◌&&◌, ◌==◌, nat_le, Option, Some, None, option_map, unwrap_or}
use Rattle.afp_base.specs.Limits.{most_fork_bytes}
use Rattle.volume_spec.specs.Order.{rises}
use Rattle.volume_spec.specs.SoundVolume.{code_size, has_file, has_node, IsSoundVolume}
use Rattle.volume_spec.specs.TypedVolume.{is_long}
use Rattle.volume_spec.specs.VolumeState.{Appl, Comment, Row as VolumeRow, VolumeState}
use Rattle.volume_spec.specs.ForkEffect.{fork_of}
use Rattle.volume_spec.specs.Walk.{row_at}
use Rattle.volume_spec.proofs.ForkEffects.{fork-few}
use Rattle.volume_spec.proofs.Trees.{tree-parts}
use Rattle.volume_changes.specs.records.Values.{fork_at}
use Rattle.record_keeper.specs.Records.{changed}
use Rattle.volume_keeper_records.specs.Image.{kept_image}
use Rattle.volume_keeper_records.specs.Records.{version}
use Rattle.volume_keeper_records.proofs.Counts.{sum_each}
use Rattle.volume_keeper_records.proofs.ForkParts.{ForkLaw}
use Rattle.volume_keeper_records.proofs.ImageRises.{fit_blocks, image_rises, long_rows, on_row}
use Rattle.volume_keeper_records.proofs.SoundFacts.{sound_facts}
use Rattle.std.proofs.lemmas.Bool.{eqb-true}
use Rattle.afp_base.proofs.Facts.{left_true}
use Rattle.afp_base.proofs.ListFacts.{all-and, all-weaker}
use Rattle.volume_changes.specs.records.Differences.{differences}
use Rattle.volume_changes.specs.records.Laws.{IsExact}
use Rattle.volume_changes.specs.records.Touched.{IsWithin, Touched, keys_of}
use Rattle.volume_changes.proofs.OfRecords.Covering.{covers}
use Rattle.volume_changes.proofs.OfRecords.Exact.{exact, makes}
use Rattle.volume_changes.proofs.OfRecords.Segments.{Facts}

pub facts : ForkLaw → (v : VolumeState) → IsSoundVolume v → Facts v
facts law v sound =
    let s = sound_facts v sound in
    let ids = long_rows v s in
    let small = all-and (λ (r : VolumeRow). is_long r.id) (λ r. nat_le (length r.data_fork + length r.resource_fork) most_fork_bytes) v.rows ids (sum_each (λ (r : VolumeRow). length r.data_fork + length r.resource_fork) v.rows most_fork_bytes s.few_bytes) in
    let on_node : (id : ℕ) → has_node v.rows id ≡ true → is_long id ≡ true = λ id. on_row (λ (r : VolumeRow). r.id == id) v.rows id (λ r t. eqb-true r.id id t) ids in
    let on_file : (id : ℕ) → has_file v.rows id ≡ true → is_long id ≡ true = λ id. on_row (λ (r : VolumeRow). (r.id == id) && not r.dir) v.rows id (λ r t. eqb-true r.id id (left_true (r.id == id) (not r.dir) t)) ids in
    record {
      rising = image_rises version law v sound;
      apart = (tree-parts v sound.tree).apart;
      small = small;
      blocks = fit_blocks law v.rows small;
      comments = all-weaker (λ (c : Comment). has_node v.rows c.node) (λ (c : Comment). is_long c.node) v.comments (λ c e. on_node c.node e) s.commented;
      appls = all-and (λ (a : Appl). is_long a.node) (λ (a : Appl). length a.creator == code_size) v.appls
          (all-weaker (λ (a : Appl). has_file v.rows a.node) (λ (a : Appl). is_long a.node) v.appls (λ a e. on_file a.node e) s.filed) s.creators;
    }

pub volumes_change : ForkLaw → (t : Touched) (v w : VolumeState) → IsSoundVolume v → IsSoundVolume w → IsWithin t v w → changed (differences (keys_of t) (kept_image v) (kept_image w)) (kept_image v) ≡ kept_image w
volumes_change law t v w s u within = makes (kept_image v) (kept_image w) (keys_of t) (covers t v w (facts law v s) (facts law w u) within)

pub volumes_exact : ForkLaw → (t : Touched) (v w : VolumeState) → rises (λ (key : List ℕ). key) (keys_of t) ≡ true → IsSoundVolume v → IsSoundVolume w → IsWithin t v w → IsExact (differences (keys_of t) (kept_image v) (kept_image w)) (kept_image v) (kept_image w)
volumes_exact law t v w rising s u within = exact (kept_image v) (kept_image w) (keys_of t) rising (covers t v w (facts law v s) (facts law w u) within)

-- a fork of a sound volume has no more bytes than a volume may have
pub fork_small : (v : VolumeState) (id : ℕ) (resource : Bool) → IsSoundVolume v → length (fork_at v id resource) ≤ most_fork_bytes
fork_small v id resource sound = by (row_at v.rows id) refl
  where
    by : (o : Option VolumeRow) → row_at v.rows id ≡ o → length (unwrap_or (option_map (fork_of resource) o) []) ≤ most_fork_bytes
    by None at = omega arith
    by (Some row) at = fork-few v id resource row at sound
