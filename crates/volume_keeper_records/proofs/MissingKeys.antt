-- A key that counts as there.
use Rattle.std.proofs.Common.{◌≡◌, ℕ, true, false, List, [], ◌∷◌, refl, sym, ap, ◌∙◌, Bool, cond}
use Rattle.std.specs.Prelude.{None, ◌||◌, bytes_eq, ◌&&◌, ◌==◌, Some, Option, is_none, not, drop, option_map, unwrap_or}
use Rattle.std.specs.List.{find}
use Rattle.std.specs.Cmp.{tied_itself}
use Rattle.std.specs.Cmp.Lexicographic.{slice_cmp, nat_list_cmp_total}
use Rattle.std.specs.Ordering.{nat_cmp, ordering_reverse, match_ordering}
use Rattle.std.specs.FinMap.{slice_cmp-IsAntisymmetric, nat_cmp-IsAntisymmetric}
use Rattle.std.specs.declared.cmp.Ordering.{Ordering}
use Rattle.std.specs.declared.cmp.Ordering.TheVariants.{Less, Equal, Greater}
use Rattle.std.proofs.lemmas.Slice.Eq.{bytes_eq-Decides}
use Rattle.std.proofs.lemmas.Bool.{or_right}
use Rattle.record_keeper.specs.declared.record.Record.{Record}
use Rattle.volume_keeper_records.specs.Shape.{row_in, Label, guess, is_formed_record, node_in, is_sound_node, privileges_at, word_at}
use Rattle.volume_keeper_records.specs.FirstBad.{version_in}
use Rattle.volume_keeper_records.specs.KeyOrder.{IsBelow, RisesByKey, with_key, root_key}
use Rattle.volume_keeper_records.specs.Records.{head_key, old_version, version}
use Rattle.volume_keeper_records.specs.lemma.KeyOrder.{has_key}
use Rattle.afp_names.specs.Name.{name_fault}
use Rattle.volume_spec.specs.VolumeState.{Privileges}

-- no record is of another shape than a volume's
abbrev pub AllShaped : Label → List Record → Type 0
AllShaped label [] = Unit {0}
AllShaped label (r ∷ records) = (row_in label r ≡ None → ⊥) × AllShaped label records

abbrev pub by_bytes : List ℕ → List ℕ → Ordering
by_bytes = slice_cmp nat_cmp

pub turned_less : (k q : List ℕ) → by_bytes k q ≡ Greater → by_bytes q k ≡ Less
turned_less k q e = nat_list_cmp_total.antisymm q k ∙ ap ordering_reverse e

pub one_key : (k q : List ℕ) → by_bytes k q ≡ Equal → k ≡ q
one_key k q e = slice_cmp-IsAntisymmetric nat_cmp-IsAntisymmetric k q e

pub below_through : (x y : List ℕ) (rs : List Record) → by_bytes x y ≡ Less → IsBelow y rs → IsBelow x rs
below_through x y [] e b = tt
below_through x y (r ∷ rs) e b = (nat_list_cmp_total.trans x y r.key e b.0, below_through x y rs e b.1)

below_with : (x k : List ℕ) (rs : List Record) → by_bytes x k ≡ Less → IsBelow x rs → IsBelow x (with_key k rs)
below_with x k [] e b = (e, tt)
below_with x k (r ∷ rs) e b = elim (by_bytes k r.key) as (λ o. IsBelow x (match_ordering o (record { key = k; value = [] } ∷ r ∷ rs) (r ∷ rs) (r ∷ with_key k rs))) [
  | Less ↦ (e, b)
  | Equal ↦ b
  | Greater ↦ (b.0, below_with x k rs e b.1)
]

pub rises_with : (k : List ℕ) (rs : List Record) → RisesByKey rs → RisesByKey (with_key k rs)
rises_with k [] s = (tt, tt)
rises_with k (r ∷ rs) s = elim (by_bytes k r.key) as (λ o. by_bytes k r.key ≡ o → RisesByKey (match_ordering o (record { key = k; value = [] } ∷ r ∷ rs) (r ∷ rs) (r ∷ with_key k rs))) [
  | Less ↦ λ e. ((e, below_through k r.key rs e s.0), s)
  | Equal ↦ λ e. s
  | Greater ↦ λ e. (below_with r.key k rs (turned_less k r.key e) s.0, rises_with k rs s.1)
] refl

same_bytes : (x : List ℕ) → bytes_eq x x ≡ true
same_bytes x = (bytes_eq-Decides x x).1 refl

pub has_with : (k : List ℕ) (rs : List Record) → has_key k (with_key k rs) ≡ true
has_with k [] = ap (λ b. b || false) (same_bytes k)
has_with k (r ∷ rs) = elim (by_bytes k r.key) as (λ o. by_bytes k r.key ≡ o → has_key k (match_ordering o (record { key = k; value = [] } ∷ r ∷ rs) (r ∷ rs) (r ∷ with_key k rs)) ≡ true) [
  | Less ↦ λ e. ap (λ b. b || has_key k (r ∷ rs)) (same_bytes k)
  | Equal ↦ λ e. ap (λ b. b || has_key k rs) (ap (λ x. bytes_eq x k) (sym (one_key k r.key e)) ∙ same_bytes k)
  | Greater ↦ λ e. or_right (bytes_eq r.key k) _ (has_with k rs)
] refl

pub still_has : (q k : List ℕ) (rs : List Record) → has_key q rs ≡ true → has_key q (with_key k rs) ≡ true
still_has q k [] e = absurd (cc)
still_has q k (r ∷ rs) e = elim (by_bytes k r.key) as (λ o. has_key q (match_ordering o (record { key = k; value = [] } ∷ r ∷ rs) (r ∷ rs) (r ∷ with_key k rs)) ≡ true) [
  | Less ↦ or_right (bytes_eq k q) _ e
  | Equal ↦ e
  | Greater ↦ elim (bytes_eq r.key q) as (λ b. (b || has_key q rs) ≡ true → (b || has_key q (with_key k rs)) ≡ true) [ true ↦ λ h. refl | false ↦ λ h. still_has q k rs h ] e
]

-- where nothing is refused for its shape, no key is missing
pub none_missing : (label : Label) (k : List ℕ) → row_in label (record { key = k; value = [] }) ≡ None → (rs : List Record) → AllShaped label (with_key k rs) → with_key k rs ≡ rs
none_missing label k n [] a = absurd (a.0 n)
none_missing label k n (r ∷ rs) a = elim (by_bytes k r.key) as (λ o. AllShaped label (match_ordering o (record { key = k; value = [] } ∷ r ∷ rs) (r ∷ rs) (r ∷ with_key k rs)) → match_ordering o (record { key = k; value = [] } ∷ r ∷ rs) (r ∷ rs) (r ∷ with_key k rs) ≡ r ∷ rs) [
  | Less ↦ λ h. absurd (h.0 n)
  | Equal ↦ λ h. refl
  | Greater ↦ λ h. ap (λ x. r ∷ x) (none_missing label k n rs h.1)
] a

no_row : {A : Type 0} (a b : Bool) (x : A) → a ≡ false → cond (a && b) (Some x) None ≡ None
no_row a b x e = ap (λ t. cond (t && b) (Some x) None) e

pub empty_head : (label : Label) → row_in label (record { key = head_key; value = [] }) ≡ None
unfolding row_in
empty_head label = no_row (is_formed_record label (guess label.version (record { key = head_key; value = [] }))) _ _ (second_false ((0 == label.version) && true))
  where
    second_false : (a : Bool) → (a && false) ≡ false
    second_false true = refl
    second_false false = refl

-- what an empty value says has no name, in each version
abbrev nothing_said : Bool → Option Privileges
nothing_said old = cond old None (Some (privileges_at [] 17))

unnamed_root : (name : List ℕ) (old : Bool) → (cond old (is_none (nothing_said old)) (not (is_none (nothing_said old))) && is_sound_node name (record (node_in 1 root_key [] [] []) { privileges = nothing_said old; name = drop (cond old 17 28) [] })) ≡ false
unfolding name_fault
unnamed_root name true = refl
unnamed_root name false = refl

pub empty_root : (label : Label) → row_in label (record { key = root_key; value = [] }) ≡ None
unfolding row_in
empty_root label = no_row (is_formed_record label (guess label.version (record { key = root_key; value = [] }))) _ _ (unnamed_root label.name (label.version == old_version))

-- a key above which all keys are is not among them
other_key : (k q : List ℕ) → by_bytes k q ≡ Less → bytes_eq q k ≡ false
other_key k q less = elim (bytes_eq q k) as (λ t. bytes_eq q k ≡ t → t ≡ false) [
  | true ↦ λ t. absurd (let i : Less ≡ Equal = sym less ∙ ap (by_bytes k) ((bytes_eq-Decides q k).0 t) ∙ tied_itself nat_list_cmp_total k in cc)
  | false ↦ λ t. refl
] refl

not_there : (k : List ℕ) (rs : List Record) → IsBelow k rs → has_key k rs ≡ false
not_there k [] b = refl
not_there k (r ∷ rs) b = λ i. other_key k r.key b.0 i || not_there k rs b.1 i

not_found : (k : List ℕ) (rs : List Record) → IsBelow k rs → find (λ (r : Record). bytes_eq r.key k) rs ≡ None
not_found k [] b = refl
not_found k (r ∷ rs) b = λ i. cond (other_key k r.key b.0 i) (Some r) (not_found k rs b.1 i)

-- where all keys are above the head's, no version is said
pub unsaid_version : (r : Record) (rs : List Record) → by_bytes head_key r.key ≡ Less → IsBelow r.key rs → version_in (r ∷ rs) ≡ version
unsaid_version r rs e b =
    ap (λ (o : Option Record). cond (word_at (unwrap_or (option_map (λ (r : Record). r.value) o) []) 0 == old_version) old_version version) (not_found head_key (r ∷ rs) (e, below_through head_key r.key rs e b))

pub present_same : (k : List ℕ) (rs : List Record) → RisesByKey rs → has_key k rs ≡ true → with_key k rs ≡ rs
present_same k [] s h = absurd (cc)
present_same k (r ∷ rs) s h = elim (by_bytes k r.key) as (λ o. by_bytes k r.key ≡ o → match_ordering o (record { key = k; value = [] } ∷ r ∷ rs) (r ∷ rs) (r ∷ with_key k rs) ≡ r ∷ rs) [
  | Less ↦ λ e. absurd (let n : has_key k (r ∷ rs) ≡ false = not_there k (r ∷ rs) (e, below_through k r.key rs e s.0) in let i : true ≡ false = sym h ∙ n in cc)
  | Equal ↦ λ e. refl
  | Greater ↦ λ e. ap (λ x. r ∷ x) (present_same k rs s.1
      (elim (bytes_eq r.key k) as (λ t. bytes_eq r.key k ≡ t → (t || has_key k rs) ≡ true → has_key k rs ≡ true) [
        | true ↦ λ t u. absurd (let i : Greater ≡ Equal = sym e ∙ ap (by_bytes k) ((bytes_eq-Decides r.key k).0 t) ∙ tied_itself nat_list_cmp_total k in cc)
        | false ↦ λ t u. u
      ] refl h))
] refl
