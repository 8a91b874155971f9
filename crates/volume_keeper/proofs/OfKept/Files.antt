-- The file of an id that is a file's.
use Rattle.std.proofs.Common.{◌==◌, ◌≡◌, ◌∙◌, ap, sym, refl, ℕ, ◌≤◌, arith, Bool, true, false, not, ◌&&◌, ◌||◌, cond, List, [], ◌∷◌, Option, Some, None}
use Rattle.std.specs.Prelude.{nat_lt, option_map}
use Rattle.std.specs.List.{find, list_any}
use Rattle.std.proofs.lemmas.Bool.{not-true}
use Rattle.std.proofs.lemmas.Option.{same_Some}
use Rattle.afp_bitmap.specs.Params.{params}
use Rattle.afp_bitmap.specs.declared.params.Values.TheVariants.{Dir}
use Rattle.volume_spec.specs.Shared.{Opened}
use Rattle.volume_spec.specs.Edits.{bare}
use Rattle.volume_spec.specs.ForkEffect.{fork_of}
use Rattle.volume_spec.specs.NodeValues.{bits_of, dir_values, node_values}
use Rattle.volume_spec.specs.OpenFork.{file_of, fork_values}
use Rattle.volume_spec.specs.Order.{rises_from}
use Rattle.volume_spec.specs.SoundVolume.{IsSoundVolume, has_file, has_node}
use Rattle.volume_spec.specs.VolumeState.{Row, VolumeState}
use Rattle.volume_spec.specs.Walk.{row_at}
use Rattle.volume_tree.specs.Shown.{fork_at}
use Rattle.volume_keeper.proofs.OfLoading.SoundRows.{ids_rise}
use Rattle.afp_base.proofs.Facts.{left_true, or-false, right_true}

-- a node that was found is a file
abbrev pub is_file : Option Row → Bool
is_file None = false
is_file (Some r) = not r.dir

abbrev file_here : ℕ → Row → Bool
file_here id r = r.id == id && not r.dir

none_above : (id low : ℕ) (rows : List Row) → id ≤ low → rises_from (λ (r : Row). r.id) low rows ≡ true → list_any (file_here id) rows ≡ false
none_above id low [] h e = refl
none_above id low (r ∷ rows) h e =
    let up : nat_lt low r.id ≡ true = left_true (nat_lt low r.id) _ e in
    let differs : (r.id == id) ≡ false = grind (arith, h, up) in
    (λ k. (differs k && not r.dir) || none_above id r.id rows (grind (arith, h, up)) (right_true (nat_lt low r.id) _ e) k)

file_found : (id low : ℕ) (rows : List Row) → rises_from (λ (r : Row). r.id) low rows ≡ true → list_any (file_here id) rows ≡ is_file (find (λ (r : Row). r.id == id) rows)
file_found id low [] e = refl
file_found id low (r ∷ rows) e =
    let rest = right_true (nat_lt low r.id) _ e in
    elim (r.id == id) as (λ b. (r.id == id) ≡ b → ((b && not r.dir) || list_any (file_here id) rows) ≡ is_file (cond b (Some r) (find (λ (r : Row). r.id == id) rows))) [
      | true ↦ λ h. let same : id ≤ r.id = grind (arith, h) in ap (λ b. not r.dir || b) (none_above id r.id rows same rest) ∙ or-false (not r.dir)
      | false ↦ λ h. file_found id r.id rows rest
    ] refl

pub file_is : (v : VolumeState) → IsSoundVolume v → (id : ℕ) → has_file v.rows id ≡ is_file (row_at v.rows id)
unfolding row_at
file_is v sound id = file_found id 0 v.rows (ids_rise v sound)

-- the file, and its forks
pub record Found (rows : List Row) (id : ℕ) : Type 0 where
  pub file : Row
  pub found : row_at rows id ≡ Some file
  pub is_file : file.dir ≡ false

pub found_in : (v : VolumeState) → IsSoundVolume v → (id : ℕ) → has_file v.rows id ≡ true → Found v.rows id
found_in v sound id e = by (row_at v.rows id) refl (sym (file_is v sound id) ∙ e)
  where
    by : (o : Option Row) → row_at v.rows id ≡ o → is_file o ≡ true → Found v.rows id
    by None found e = absurd (cc)
    by (Some r) found e = record { file = r; found = found; is_file = not-true r.dir e }

pub fork_is : (rows : List Row) (id : ℕ) (resource : Bool) (file : Row) → row_at rows id ≡ Some file → file.dir ≡ false → fork_at rows id resource ≡ Some (fork_of resource file)
unfolding fork_at
fork_is rows id resource file found kind =
    ap (λ o. option_map (fork_of resource) (file_of o)) found
    ∙ ap (λ d. option_map (fork_of resource) (cond d None (Some file))) kind

-- what is found by an id that is a file's is a file, and its fork is there
pub file_kind : (v : VolumeState) → IsSoundVolume v → (id : ℕ) (file : Row) → has_file v.rows id ≡ true → row_at v.rows id ≡ Some file → file.dir ≡ false
file_kind v sound id file e found =
    let it = found_in v sound id e in
    ap (λ (r : Row). r.dir) (same_Some file it.file (sym found ∙ it.found)) ∙ it.is_file

pub fork_there : (v : VolumeState) → IsSoundVolume v → (id : ℕ) (resource : Bool) (file : Row) → has_file v.rows id ≡ true → row_at v.rows id ≡ Some file → fork_at v.rows id resource ≡ Some (fork_of resource file)
fork_there v sound id resource file e found = fork_is v.rows id resource file found (file_kind v sound id file e found)

pub fork_told : (v : VolumeState) → IsSoundVolume v → (id : ℕ) (resource : Bool) (file : Row) (bytes : List ℕ) → has_file v.rows id ≡ true → row_at v.rows id ≡ Some file → Some bytes ≡ fork_at v.rows id resource → bytes ≡ fork_of resource file
fork_told v sound id resource file bytes e found is = same_Some bytes (fork_of resource file) (is ∙ fork_there v sound id resource file e found)

pub fork_missing : (v : VolumeState) → IsSoundVolume v → (id : ℕ) (resource : Bool) → has_file v.rows id ≡ true → None ≡ fork_at v.rows id resource → ⊥
fork_missing v sound id resource e none =
    let it = found_in v sound id e in
    absurd (let k : None ≡ Some (fork_of resource it.file) = none ∙ fork_is v.rows id resource it.file it.found it.is_file in cc k)

pub node_file : (o : Option Row) (n : Row) → Some n ≡ option_map bare o → not n.dir ≡ is_file o
node_file None n e = absurd (cc)
node_file (Some r) n e = ap (λ (x : Row). not x.dir) (same_Some n (bare r) e)

pub node_missing : (o : Option Row) → None ≡ option_map bare o → false ≡ is_file o
node_missing None e = refl
node_missing (Some r) e = absurd (cc)

node_found : (id : ℕ) (rows : List Row) → list_any (file_here id) rows ≡ true → list_any (λ (r : Row). r.id == id) rows ≡ true
node_found id [] e = absurd (cc)
node_found id (r ∷ rows) e = elim (r.id == id) as (λ b. ((b && not r.dir) || list_any (file_here id) rows) ≡ true → (b || list_any (λ (r : Row). r.id == id) rows) ≡ true) [
  | true ↦ λ h. refl
  | false ↦ λ h. node_found id rows h
] e

pub node_there : (rows : List Row) (id : ℕ) → has_file rows id ≡ true → has_node rows id ≡ true
node_there rows id e = node_found id rows e

-- what is told of a file
pub file_told : (rows : List Row) (user : ℕ) (opens : List Opened) (bits : ℕ) (file : Row) → file.dir ≡ false → params (bits_of bits 0 file) (node_values rows user opens bits 0 file) ≡ params bits (fork_values opens bits file)
unfolding node_values
file_told rows user opens bits file kind = ap (λ d. params (cond d 0 bits) (cond d (Dir (dir_values rows user 0 file)) (fork_values opens bits file))) kind
