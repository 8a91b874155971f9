-- The bytes of forks keep their limits.
use Rattle.std.proofs.Common.{◌≡◌, ◌∙◌, ◌==◌, ◌||◌, ap, sym, refl, ℕ, ◌≤◌, ◌<◌, ◌^◌, Bool, true, false, cond, List, [], length, Option, Some, None, arith}
use Rattle.volume_spec.specs.ForkEffect.{fork_of}
use Rattle.std.specs.Prelude.{option_map, unwrap_or, if◌then◌else◌}
use Rattle.std.specs.List.{find}
use Rattle.std.proofs.lemmas.Bool.{cond_both, cond-false}
use Rattle.volume_spec.proofs.Formed.{LimitParts, limit-parts}
use Rattle.afp_bitmap.specs.Bits.{is_asked}
use Rattle.volume_spec.specs.Edits.{bare}
use Rattle.volume_spec.specs.NodeValues.{file_values, told_attributes}
use Rattle.volume_spec.specs.Parms.{asked_or}
use Rattle.volume_spec.specs.Shared.{Opened}
use Rattle.afp_base.specs.Limits.{most_fork_bytes}
use Rattle.volume_spec.specs.SoundVolume.{IsSoundVolume, fork_bytes, row_bytes}
use Rattle.volume_spec.specs.VolumeState.{Row, VolumeState}
use Rattle.volume_spec.specs.Walk.{row_at}
use Rattle.volume_tree.specs.declared.forks.FileForks.{FileForks}
use Rattle.volume_keeper.specs.replies.lemma.Told.{bytes_at, bytes_in, whole, with_these}
use Rattle.volume_spec.specs.OpenFork.{file_of}
use Rattle.volume_tree.specs.Shown.{fork_at}
use Rattle.volume_spec.proofs.ForkEffects.{fork-within}
use Rattle.volume_spec.proofs.ToldValues.{bytes-within}

pub used-within : (v : VolumeState) → IsSoundVolume v → fork_bytes v.rows ≤ most_fork_bytes
used-within v s = let limits : LimitParts v = limit-parts v s.limits in limits.bytes

pub fork-small : (v : VolumeState) (id : ℕ) (resource : Bool) (bytes : List ℕ) → IsSoundVolume v → Some bytes ≡ fork_at v.rows id resource → length bytes < 2 ^ 32
unfolding fork_at row_at
fork-small v id resource bytes s is = by (find (λ (r : Row). r.id == id) v.rows) refl is
  where
    small : (row : Row) → find (λ (r : Row). r.id == id) v.rows ≡ Some row → bytes ≡ fork_of resource row → length bytes < 2 ^ 32
    small row found same =
        let all : fork_bytes v.rows ≤ most_fork_bytes = used-within v s in
        let these : row_bytes row ≤ fork_bytes v.rows = bytes-within (λ (r : Row). r.id == id) v.rows row found in
        let one : length (fork_of resource row) ≤ row_bytes row = fork-within resource row in
        let size : length bytes ≡ length (fork_of resource row) = ap length same in
        omega arith

    by : (o : Option Row) → find (λ (r : Row). r.id == id) v.rows ≡ o → Some bytes ≡ option_map (fork_of resource) (file_of o) → length bytes < 2 ^ 32
    by None found same = absurd (cc)
    by (Some row) found same =
        cond_both row.dir None (Some row) (λ o. Some bytes ≡ option_map (fork_of resource) o → length bytes < 2 ^ 32)
        (λ dir same. absurd (cc)) (λ file same. let is : bytes ≡ fork_of resource row = cc in small row found is) same

-- and the forks of a file that were found
pub forks-small : (v : VolumeState) (id : ℕ) (resource : Bool) (forks : Option FileForks) → IsSoundVolume v → option_map (λ (kept : FileForks). if resource then kept.resource_fork else kept.data_fork) forks ≡ fork_at v.rows id resource
    → length (bytes_in forks resource) < 2 ^ 32
forks-small v id resource None s is = omega arith
forks-small v id resource (Some kept) s is = fork-small v id resource (if resource then kept.resource_fork else kept.data_fork) s is

-- a node with these is whole
pub with-whole : (rows : List Row) (node : Row) (forks : Option FileForks) → ((resource : Bool) → option_map (λ (kept : FileForks). if resource then kept.resource_fork else kept.data_fork) forks ≡ fork_at rows node.id resource)
    → with_these forks node ≡ whole rows node
unfolding bytes_at
with-whole rows node forks are =
    (λ i. record node { data_fork = unwrap_or (are false i) []; resource_fork = unwrap_or (are true i) [] })

-- where no length is asked it does not count which they are
none-of : (a b : Bool) → (a || b) ≡ false → (a ≡ false) × (b ≡ false)
none-of true b none = absurd (cc)
none-of false b none = (refl, none)

unasked : (bits bit n m : ℕ) → is_asked bits bit ≡ false → asked_or bits bit 0 n ≡ asked_or bits bit 0 m
unasked bits bit n m none = cond-false (is_asked bits bit) n 0 none ∙ sym (cond-false (is_asked bits bit) m 0 none)

pub not-told : (opens : List Opened) (bits : ℕ) (rows : List Row) (node : Row) (forks : Option FileForks) → ((is_asked bits 9 || is_asked bits 10) || (is_asked bits 11 || is_asked bits 14)) ≡ false
    → file_values opens bits (with_these forks node) ≡ file_values opens bits (whole rows node)
unfolding file_values told_attributes
not-told opens bits rows node forks none =
    let two = none-of (is_asked bits 9 || is_asked bits 10) (is_asked bits 11 || is_asked bits 14) none in
    let front = none-of (is_asked bits 9) (is_asked bits 10) two.0 in
    let behind = none-of (is_asked bits 11) (is_asked bits 14) two.1 in
    let first : ℕ = length (bytes_in forks false) in
    let other : ℕ = length (bytes_in forks true) in
    λ i. record (file_values opens bits node) {
      data_length = unasked bits 9 first (length (bytes_at rows node.id false)) front.0 i;
      resource_length = unasked bits 10 other (length (bytes_at rows node.id true)) front.1 i;
      ext_data_length = unasked bits 11 first (length (bytes_at rows node.id false)) behind.0 i;
      ext_resource_length = unasked bits 14 other (length (bytes_at rows node.id true)) behind.1 i;
    }

-- a file that was found has these forks
pub whole-is : (rows : List Row) (node row : Row) → row_at rows node.id ≡ Some row → node ≡ bare row → row.dir ≡ false → whole rows node ≡ row
unfolding bytes_at fork_at
whole-is rows node row found shown file =
    (λ i. record (shown i) { data_fork = bytes false i; resource_fork = bytes true i })
  where
    bytes : (resource : Bool) → unwrap_or (option_map (fork_of resource) (file_of (row_at rows node.id))) [] ≡ fork_of resource row
    bytes resource = ap (λ (o : Option Row). unwrap_or (option_map (fork_of resource) (file_of o)) []) found ∙ ap (λ d. unwrap_or (option_map (fork_of resource) (cond d None (Some row))) []) file
