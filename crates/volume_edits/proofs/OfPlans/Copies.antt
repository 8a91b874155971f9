-- Files that are copied, and the edits of a copy.
use Rattle.std.proofs.Common.{◌≡◌, ◌∙◌, ◌==◌, ℕ, Bool, true, false, not, List, [], ◌∷◌, Option, Some, None, Ok, refl, sym, ap, arith, inl, inr, min, ◌+◌}
use Rattle.std.specs.Prelude.{nat_lt, option_map, unwrap_or}
use Rattle.std.proofs.lemmas.Bool.{cases_lt, cond_both, lt-ltb}
use Rattle.afp_base.proofs.ListFacts.{find-all}
use Rattle.afp_base.specs.Limits.{most_fork_bytes}
use Rattle.afp_names.specs.Path.{PathValue}
use Rattle.volume_spec.proofs.Formed.{formed-parts, limit-parts}
use Rattle.volume_spec.proofs.ForkEffects.{row-within}
use Rattle.volume_spec.proofs.SeenRows.{test-found}
use Rattle.volume_spec.proofs.Trees.{tree-parts}
use Rattle.volume_spec.proofs.TypedEdits.{typed-parts}
use Rattle.volume_spec.specs.CopyFile.{Source, copy_at}
use Rattle.volume_spec.specs.Edit.{Comes, dated, edits_at}
use Rattle.volume_spec.specs.Edits.{bare}
use Rattle.volume_spec.specs.ForkEffect.{fork_of, would_pass}
use Rattle.volume_spec.specs.OpenFork.{file_of}
use Rattle.volume_spec.specs.SoundVolume.{IsSoundVolume, fork_bytes, has_file, is_formed}
use Rattle.volume_spec.specs.TypedVolume.{is_typed_row, is_typed_volume}
use Rattle.volume_spec.specs.VolumeCalls as call
use Rattle.volume_spec.specs.VolumeCalls.{call_edits}
use Rattle.volume_spec.specs.VolumeState.{Row, VolumeState}
use Rattle.volume_spec.specs.Walk.{found, one_down_or, row_at}
use Rattle.volume_tree.proofs.Showing.{test-missing}
use Rattle.volume_tree.specs.Shown.{fork_at}
use Rattle.volume_edits.specs.plans.lemma.Copied.{IsCopied}

pub copy-edits : (v : VolumeState) (user now dir : ℕ) (path : PathValue) (target : ℕ) (source : Source) (new : PathValue) (name : List ℕ) → found v.rows user dir path ≡ Ok target → one_down_or source.file.name new.steps ≡ Ok name
    → Comes (copy_at target name source.file) ∷ dated now target ∷ [] ≡ call_edits v user now (call.CopyFile source dir path new)
unfolding call_edits
copy-edits v user now dir path target source new name at named =
    sym (ap (λ r. edits_at r (λ t. edits_at (one_down_or source.file.name new.steps) (λ n. Comes (copy_at t n source.file) ∷ dated now t ∷ []))) at
    ∙ ap (λ r. edits_at r (λ n. Comes (copy_at target n source.file) ∷ dated now target ∷ [])) named)

-- a file that is found is a row
file-row : (o : Option Row) (file : Row) → Some file ≡ file_of o → o ≡ Some file
file-row None file is = absurd (cc)
file-row (Some row) file is = cond_both row.dir None (Some row) (λ f. Some file ≡ f → Some row ≡ Some file) (λ here h. absurd (cc)) (λ other h. sym h) is

-- a node and its forks are a file
file-of-parts : (o : Option Row) (node : Row) (bytes resource : List ℕ) → Some node ≡ option_map bare o → Some bytes ≡ option_map (fork_of false) (file_of o) → Some resource ≡ option_map (fork_of true) (file_of o)
    → Some (record node { data_fork = bytes; resource_fork = resource }) ≡ file_of o
file-of-parts None node bytes resource n d r = absurd (cc)
file-of-parts (Some row) node bytes resource n d r =
    cond_both row.dir None (Some row)
    (λ f. Some bytes ≡ option_map (fork_of false) f → Some resource ≡ option_map (fork_of true) f → Some (record node { data_fork = bytes; resource_fork = resource }) ≡ f)
    (λ here data_is resource_is. absurd (cc))
    (λ other data_is resource_is.
    let node_is : node ≡ bare row = ap (λ o. unwrap_or o node) n in
    let data_same : bytes ≡ row.data_fork = ap (λ o. unwrap_or o bytes) data_is in
    let resource_same : resource ≡ row.resource_fork = ap (λ o. unwrap_or o resource) resource_is in
    λ i. Some (record (node_is i) { data_fork = data_same i; resource_fork = resource_same i }))
    d r

-- where a fork is missing there is no file
no-file : (o : Option Row) (resource : Bool) → None ≡ option_map (fork_of resource) (file_of o) → None ≡ file_of o
no-file None resource h = refl
no-file (Some row) resource h = cond_both row.dir None (Some row) (λ f. None ≡ option_map (fork_of resource) f → None ≡ f) (λ here h. refl) (λ other h. absurd (cc)) h

no-row : (o : Option Row) → None ≡ option_map bare o → None ≡ file_of o
no-row None h = refl
no-row (Some row) h = absurd (cc)

-- whether there is a file is told by the row
file-told : (v : VolumeState) (id : ℕ) (o : Option Row) → IsSoundVolume v → row_at v.rows id ≡ o → None ≡ file_of o → has_file v.rows id ≡ false
file-told v id None s at none = test-missing v.rows id (λ (row : Row). not row.dir) at
file-told v id (Some row) s at none =
    test-found v.rows id (λ (r : Row). not r.dir) row (tree-parts v s.tree).apart at
    ∙ ap not (cond_both row.dir None (Some row) (λ f. None ≡ f → row.dir ≡ true) (λ here h. here) (λ other h. absurd (cc)) none)

module _ (v : VolumeState) (id : ℕ) (s : IsSoundVolume v) where
  pub none-found : None ≡ option_map bare (row_at v.rows id) → has_file v.rows id ≡ false
  none-found h = file-told v id (row_at v.rows id) s refl (no-row (row_at v.rows id) h)

  pub no-fork-found : (resource : Bool) → None ≡ fork_at v.rows id resource → has_file v.rows id ≡ false
  unfolding fork_at
  no-fork-found resource h = file-told v id (row_at v.rows id) s refl (no-file (row_at v.rows id) resource h)

  module _ (node : Row) (bytes resource : List ℕ) (n : Some node ≡ option_map bare (row_at v.rows id)) (d : Some bytes ≡ fork_at v.rows id false) (r : Some resource ≡ fork_at v.rows id true) where
    pub file-found : file_of (row_at v.rows id) ≡ Some (record node { data_fork = bytes; resource_fork = resource })
    unfolding fork_at
    file-found = sym (file-of-parts (row_at v.rows id) node bytes resource n d r)

    row-found : row_at v.rows id ≡ Some (record node { data_fork = bytes; resource_fork = resource })
    row-found = file-row (row_at v.rows id) (record node { data_fork = bytes; resource_fork = resource }) (sym file-found)

    pub file-there : has_file v.rows id ≡ true
    file-there =
        test-found v.rows id (λ (row : Row). not row.dir) (record node { data_fork = bytes; resource_fork = resource }) (tree-parts v s.tree).apart row-found
        ∙ ap not (file-dir (record node { data_fork = bytes; resource_fork = resource }) (ap file_of (sym row-found) ∙ file-found))
      where
        file-dir : (row : Row) → file_of (Some row) ≡ Some row → row.dir ≡ false
        file-dir row h = cond_both row.dir None (Some row) (λ f. f ≡ Some row → row.dir ≡ false) (λ here h. absurd (cc)) (λ other h. other) h

    pub file-copied : is_typed_volume v ≡ true → IsCopied (record node { data_fork = bytes; resource_fork = resource })
    unfolding row_at
    file-copied typed = record {
      formed = find-all (λ (row : Row). row.id == id) is_formed v.rows (record node { data_fork = bytes; resource_fork = resource }) row-found (formed-parts v s.formed).rows;
      typed = find-all (λ (row : Row). row.id == id) is_typed_row v.rows (record node { data_fork = bytes; resource_fork = resource }) row-found (typed-parts v typed).rows;
      few = let within = row-within v.rows id (record node { data_fork = bytes; resource_fork = resource }) row-found in omega (arith, within, (limit-parts v s.limits).bytes);
    }
