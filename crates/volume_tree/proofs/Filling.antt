-- What is kept of a volume after a block of a fork was filled.
use Rattle.std.proofs.Common.{◌==◌, ◌≡◌, ◌∙◌, ap, sym, refl, subst, ℕ, ◌+◌, ◌*◌, ◌≤◌, arith, Bool, true, false, List, [], ◌∷◌, length}
use Rattle.volume_spec.specs.ForkEffect.{fork_effect, written, fork_of}
use Rattle.std.specs.Prelude.{max}
use Rattle.std.specs.Ordering.{nat_cmp}
use Rattle.afp_base.specs.ForkBytes.{splice, Reaches}
use Rattle.afp_base.specs.declared.ids.NodeId.{NodeId}
use Rattle.afp_base.specs.Limits.{block_size, most_fork_bytes}
use Rattle.fork_bytes.specs.Plan.{ForkPlanState as ForkPlanState, IsForkPlan as IsForkPlan}
use Rattle.node_rows.specs.Kept.{RowsValue}
use Rattle.sorted_map.specs.map.Entries.{at}
use Rattle.volume_spec.proofs.Formed.{limit-parts}
use Rattle.volume_spec.proofs.SoundEdits.{changed-same}
use Rattle.volume_spec.specs.SoundVolume.{fork_bytes}
use Rattle.volume_spec.specs.VolumeState.{Row, VolumeState}
use Rattle.volume_spec.specs.Edits.{with_changed}
use Rattle.volume_spec.specs.Walk.{row_at}
use Rattle.volume_tree.proofs.KeptForks.{found-id}
use Rattle.volume_tree.proofs.Showing.{found-shown, ids-differ}
use Rattle.volume_tree.proofs.Writing.{FileThere, Written, file-there, before-within, written-kept, written-state}
use Rattle.volume_tree.specs.Filled.{FitsFork, filled, filled_row}
use Rattle.volume_tree.specs.lemma.ForkEffect.{IsChanged, kept_fork}
use Rattle.volume_tree.specs.Kept.{Forks, rows_of, state_of, with_forks}
use Rattle.volume_tree.specs.lemma.Kept.{IsKeptVolume}
use Rattle.volume_tree.specs.declared.head.Dates.{Dates}

same-length : Reaches → (bytes : List ℕ) (from : ℕ) (block : List ℕ) → from + length block ≤ length bytes → length (splice bytes from block) ≡ length bytes
same-length reaches bytes from [] within = refl
same-length reaches bytes from (b ∷ block) within = let r : length (splice bytes from (b ∷ block)) ≡ max (length bytes) (from + length (b ∷ block)) = reaches bytes (b ∷ block) from (omega arith) in omega arith

module _ (name : List ℕ) (dates : Dates) (rows : RowsValue) (forks : Forks) (used : ℕ) (id : NodeId) (resource : Bool) (index : ℕ) (block : List ℕ)
    (kept : IsKeptVolume name dates rows forks used) (fits : FitsFork (state_of name dates rows forks) id.0 resource index block) where
  pub file : FileThere forks rows.rows id.0 resource fits.bytes
  file = file-there forks rows.rows id.0 resource fits.bytes kept.files fits.there

  -- no fork is longer than all bytes can be
  pub ends-within : block_size * index + length block ≤ most_fork_bytes
  ends-within =
      let before : length fits.bytes ≤ used = before-within id.0 0 resource fits.bytes kept file in
      let were : used ≡ fork_bytes (rows_of forks rows.rows) = kept.bytes in
      let few : fork_bytes (rows_of forks rows.rows) ≤ most_fork_bytes = (limit-parts (state_of name dates rows forks) kept.sound.limits).bytes in
      let within : block_size * index + length block ≤ length fits.bytes = fits.within in
      omega arith

  abbrev pub after : List ℕ
  after = splice fits.bytes (block_size * index) block

  written-fill : Reaches → (new : Forks) → ((q : ℕ) → (q == id.0) ≡ false → at nat_cmp new q ≡ at nat_cmp forks q) → IsChanged resource after (at nat_cmp forks id.0) (at nat_cmp new id.0)
      → Written name dates dates rows rows forks new used used id 0 resource false fits.bytes after
  written-fill reaches new others changed =
      let same : length (splice fits.bytes (block_size * index) block) ≡ length fits.bytes = same-length reaches fits.bytes (block_size * index) block fits.within in
      let few : fork_bytes (rows_of forks rows.rows) ≤ most_fork_bytes = (limit-parts (state_of name dates rows forks) kept.sound.limits).bytes in
      record {
        kept = kept;
        file = file;
        fits = omega arith;
        dates_are = refl;
        next_is = refl;
        rows_are = refl;
        others = others;
        changed = changed;
        left_is = omega arith;
      }

  row-filled : (r : Bool) (bytes : List ℕ) (s : Row) → fork_of r s ≡ bytes → written 0 r (splice bytes (block_size * index) block) false s ≡ filled_row r index block s
  row-filled true bytes s is = λ i. record s { resource_fork = splice (sym is i) (block_size * index) block }
  row-filled false bytes s is = λ i. record s { data_fork = splice (sym is i) (block_size * index) block }

  effect-is : fork_effect 0 id.0 resource after false (state_of name dates rows forks) ≡ filled id.0 resource index block (state_of name dates rows forks)
  unfolding fork_effect filled row_at with_changed
  effect-is =
      let v : VolumeState = state_of name dates rows forks in
      let s : Row = with_forks forks file.row in
      let bytes_are : fork_of resource s ≡ fits.bytes = ap (λ n. kept_fork resource (at nat_cmp forks n)) (found-id rows.rows id.0 file.row file.found) ∙ file.bytes_are in
      ap (λ l. record v { rows = l }) (changed-same v.rows id.0 (written 0 resource (splice fits.bytes (block_size * index) block) false) (filled_row resource index block) s (ids-differ v kept.sound)
      (found-shown forks rows.rows id.0 file.row file.found) (row-filled resource fits.bytes s bytes_are))

  -- as the code goes: a plan of the fork as it is kept, and forks changed by it
  pub plan-is : (plan : ForkPlanState) → IsForkPlan (kept_fork resource (at nat_cmp forks id.0)) (splice (kept_fork resource (at nat_cmp forks id.0)) (block_size * index) block) plan
      → IsForkPlan (kept_fork resource (at nat_cmp forks id.0)) after plan
  plan-is plan is = subst (λ l. IsForkPlan (kept_fork resource (at nat_cmp forks id.0)) (splice l (block_size * index) block) plan) file.bytes_are is

  pub filled-kept : Reaches → (new : Forks) → ((q : ℕ) → (q == id.0) ≡ false → at nat_cmp new q ≡ at nat_cmp forks q) → IsChanged resource after (at nat_cmp forks id.0) (at nat_cmp new id.0) → IsKeptVolume name dates rows new used
  filled-kept reaches new others changed = written-kept (written-fill reaches new others changed)

  pub filled-state : Reaches → (new : Forks) → ((q : ℕ) → (q == id.0) ≡ false → at nat_cmp new q ≡ at nat_cmp forks q) → IsChanged resource after (at nat_cmp forks id.0) (at nat_cmp new id.0)
      → state_of name dates rows new ≡ filled id.0 resource index block (state_of name dates rows forks)
  filled-state reaches new others changed = written-state (written-fill reaches new others changed) ∙ effect-is
