-- The children of a directory: the same with forks and without; how many; each by its place.
use Rattle.std.proofs.Common.{◌≡◌, ◌∙◌, ap, sym, refl, ℕ, suc, ◌+◌, ◌<◌, Bool, List, [], ◌∷◌, map, length, drop, Option, Some, None, add-one}
use Rattle.std.specs.Prelude.{option_map, slice_get, slice_index_or}
use Rattle.std.proofs.Math.Seq.{drop-cons}
use Rattle.std.proofs.lemmas.Bool.{cond_both}
use Rattle.std.proofs.lemmas.List.{length-map}
use Rattle.std.proofs.lemmas.Option.{slice_get-map, slice_get_read, slice_get_within, get_or_from_slice_get}
use Rattle.volume_spec.proofs.BareRows.{lists-bare}
use Rattle.volume_spec.proofs.Counted.{listed-is-there}
use Rattle.volume_spec.specs.Edits.{bare}
use Rattle.volume_spec.specs.Listing.{children, listed, row_key}
use Rattle.volume_spec.specs.Order.{stands_before, put_in, in_order}
use Rattle.volume_spec.specs.SoundVolume.{IsSoundVolume}
use Rattle.volume_spec.specs.VolumeState.{Row, VolumeState}
use Rattle.volume_spec.specs.Walk.{row_at}
use Rattle.node_rows.specs.Children.{child_of}
use Rattle.node_rows.specs.Kinds.{are_of_kind, is_of_kind}
use Rattle.node_rows.specs.declared.child.Child.{Child}
use Rattle.volume_tree.proofs.Showing.{shown-bare}
use Rattle.volume_tree.specs.Kept.{Forks, rows_of}

children-bare : (rows : List Row) → map child_of (map bare rows) ≡ map child_of rows
children-bare [] = refl
children-bare (row ∷ rows) = ap (λ l. child_of row ∷ l) (children-bare rows)

pub siblings-shown : (forks : Forks) (rows : List Row) (dir : ℕ) → map child_of (listed (rows_of forks rows) dir) ≡ map child_of (listed rows dir)
siblings-shown forks rows dir =
    sym (children-bare (listed (rows_of forks rows) dir))
    ∙ ap (λ l. map child_of l) (sym (lists-bare (rows_of forks rows) dir) ∙ ap (λ l. listed l dir) (shown-bare forks rows) ∙ lists-bare rows dir)
    ∙ children-bare (listed rows dir)

kinds-bare : (files : Bool) (rows : List Row) → are_of_kind files (map bare rows) ≡ are_of_kind files rows
kinds-bare files [] = refl
kinds-bare files (row ∷ rows) = ap (λ l. is_of_kind files row ∷ l) (kinds-bare files rows)

pub kinds-shown : (files : Bool) (forks : Forks) (rows : List Row) (dir : ℕ) → are_of_kind files (listed (rows_of forks rows) dir) ≡ are_of_kind files (listed rows dir)
kinds-shown files forks rows dir =
    sym (kinds-bare files (listed (rows_of forks rows) dir))
    ∙ ap (are_of_kind files) (sym (lists-bare (rows_of forks rows) dir) ∙ ap (λ l. listed l dir) (shown-bare forks rows) ∙ lists-bare rows dir)
    ∙ kinds-bare files (listed rows dir)

length-put : (row : Row) (rows : List Row) → length (put_in row_key row rows) ≡ suc (length rows)
length-put row [] = refl
length-put row (r ∷ rows) =
    cond_both (stands_before (row_key row) (row_key r)) (row ∷ r ∷ rows) (r ∷ put_in row_key row rows) (λ l. length l ≡ suc (suc (length rows)))
    (λ first. refl) (λ later. ap suc (length-put row rows))

length-ordered : (rows : List Row) → length (in_order row_key rows) ≡ length rows
length-ordered [] = refl
length-ordered (row ∷ rows) = length-put row (in_order row_key rows) ∙ ap suc (length-ordered rows)

pub siblings-count : (rows : List Row) (dir : ℕ) → length (map child_of (listed rows dir)) ≡ length (children rows dir)
unfolding listed
siblings-count rows dir = length-map (listed rows dir) child_of ∙ length-ordered (children rows dir)

-- a child by its place is the node of its id

pub record IsSibling (v : VolumeState) (dir i : ℕ) (child : Child) : Type 0 where
  pub row : Row
  pub is : child_of row ≡ child
  pub here : slice_get (listed v.rows dir) i ≡ Some row
  pub at_id : row_at v.rows child.id.0 ≡ Some row
  pub rest : drop i (listed v.rows dir) ≡ row ∷ drop (i + 1) (listed v.rows dir)

sibling-at : (v : VolumeState) (dir i : ℕ) (child : Child) → IsSoundVolume v → slice_get (map child_of (listed v.rows dir)) i ≡ Some child → IsSibling v dir i child
sibling-at v dir i child s is = by (slice_get (listed v.rows dir) i) refl (sym (slice_get-map child_of (listed v.rows dir) i) ∙ is)
  where
    by : (o : Option Row) → slice_get (listed v.rows dir) i ≡ o → option_map child_of o ≡ Some child → IsSibling v dir i child
    by None here same = absurd (cc)
    by (Some row) here same =
        let child_is : child_of row ≡ child = cc in
        let inside : i < length (listed v.rows dir) = slice_get_within (listed v.rows dir) i row here in
        let is_row : slice_index_or (listed v.rows dir) i row ≡ row = get_or_from_slice_get (listed v.rows dir) i row row here in
        record {
          row = row;
          is = child_is;
          here = here;
          at_id = ap (λ (c : Child). row_at v.rows c.id.0) (sym child_is) ∙ listed-is-there v dir row s (i, inside, is_row);
          rest = drop-cons (listed v.rows dir) i row inside ∙ (λ k. is_row k ∷ drop (sym (add-one i) k) (listed v.rows dir));
        }

pub sibling-here : (v : VolumeState) (dir i : ℕ) (siblings : List Child) (child : Child) → IsSoundVolume v → siblings ≡ map child_of (listed v.rows dir) → i < length siblings → child ≡ slice_index_or siblings i child → IsSibling v dir i child
sibling-here v dir i siblings child s are within read = sibling-at v dir i child s (ap (λ l. slice_get l i) (sym are) ∙ slice_get_read siblings (length siblings) i child refl within read)
