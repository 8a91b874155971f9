-- Each edit of a volume keeps it sound.
use Rattle.std.proofs.Common.{◌==◌, ◌≡◌, ◌∙◌, ap, sym, refl, ℕ, ◌+◌, Bool, true, false, not, ◌&&◌, cond, List, [], ◌∷◌, length, map, Some, None, subst}
use Rattle.std.specs.List.{list_any, list_all, find}
use Rattle.std.specs.Prelude.{is_none, bit_and}
use Rattle.std.proofs.lemmas.Bool.{and_parts, and_from, cond_both, cond-true, cond-false, eqb-true, both_ways}
use Rattle.afp_names.specs.Name.{name_fault}
use Rattle.volume_spec.proofs.Formed.{FormedParts, formed-parts, formed-whole, formed-new, formed-mapped, formed-without, limit-parts, limit-whole, limits-new, limits-mapped, limits-without}
use Rattle.volume_spec.proofs.NamesApart.{names-new, names-without, names-mapped, names-moved}
use Rattle.volume_spec.proofs.Notes.{note-parts, note-whole, notes-new, notes-mapped, notes-without}
use Rattle.volume_spec.proofs.Orders.{order-parts, order-whole, order-new, order-mapped, order-without}
use Rattle.volume_spec.proofs.Trees.{TreeParts, KeepsPlace, KeepsTree, keeps-tree, tree-parts, tree-whole, tree-new, tree-without, tree-mapped, tree-moved, keeps-at}
use Rattle.volume_spec.specs.EditLaws.{MayCome}
use Rattle.volume_spec.specs.Edits.{is_taken, is_below, has_children, with_changed, change_at, at_place, changed_at, with_row, without_node, with_moved, named, renamed}
use Rattle.afp_base.specs.Apart.{are_apart}
use Rattle.volume_spec.specs.SoundVolume.{IsSoundVolume, is_tree, has_apart_names, has_noted_nodes, keeps_limits, is_formed_volume, is_in_order, is_formed, is_named, file_attributes, dir_attributes, has_fit_privileges}
use Rattle.volume_spec.specs.VolumeState.{Row, VolumeState, root_id}
use Rattle.volume_spec.specs.Walk.{has_directory, row_at}
use Rattle.afp_base.proofs.ListFacts.{none-all}
use Rattle.volume_spec.proofs.Places.{unchanged}

-- the volume's own date
pub sound-changed : (v : VolumeState) (now : ℕ) → IsSoundVolume v → IsSoundVolume (changed_at now v)
unfolding is_tree has_apart_names has_noted_nodes keeps_limits is_formed_volume is_in_order
sound-changed v now s = record { tree = s.tree; names = s.names; notes = s.notes; limits = s.limits; formed = s.formed; order = s.order }

-- a change of rows that leaves places, forms and bytes
pub record KeepsRow (change : Row → Row) : Type 0 where
  pub place : KeepsPlace change
  pub formed : (row : Row) → is_formed row ≡ true → is_formed (change row) ≡ true
  pub bytes : (row : Row) → length (change row).data_fork + length (change row).resource_fork ≡ length row.data_fork + length row.resource_fork

pub sound-mapped : (v : VolumeState) (change : Row → Row) → KeepsRow change → IsSoundVolume v → IsSoundVolume (record v { rows = map change v.rows })
sound-mapped v change k s =
    let w : VolumeState = record v { rows = map change v.rows } in
    record {
      tree = tree-whole w (tree-mapped v change (keeps-tree change k.place) (tree-parts v s.tree));
      names = names-mapped v change k.place s.names;
      notes = note-whole w (notes-mapped v change k.place.id k.place.dir (note-parts v s.notes));
      limits = limit-whole w (limits-mapped v change k.bytes (limit-parts v s.limits));
      formed = formed-whole w (formed-mapped v change k.formed (formed-parts v s.formed));
      order = order-whole w (order-mapped v change k.place.id (order-parts v s.order));
    }

row-keeps-at : (id : ℕ) (change : Row → Row) → KeepsRow change → KeepsRow (change_at id change)
row-keeps-at id change k = record {
  place = keeps-at id change k.place;
  formed = λ row h. cond_both (row.id == id) (change row) row (λ r. is_formed r ≡ true) (λ same. k.formed row h) (λ other. h);
  bytes = λ row. cond_both (row.id == id) (change row) row (λ r. length r.data_fork + length r.resource_fork ≡ length row.data_fork + length row.resource_fork) (λ same. k.bytes row) (λ other. refl);
}

pub sound-at : (v : VolumeState) (id : ℕ) (change : Row → Row) → KeepsRow change → IsSoundVolume v → IsSoundVolume (record v { rows = with_changed id change v.rows })
unfolding with_changed
sound-at v id change k s = sound-mapped v (change_at id change) (row-keeps-at id change k) s

-- one row more
pub sound-row : (v : VolumeState) (row : Row) → MayCome v row → IsSoundVolume v → IsSoundVolume (with_row row v)
sound-row v row p s =
    let w : VolumeState = with_row row v in
    let f : FormedParts v = formed-parts v s.formed in
    record {
      tree = tree-whole w (tree-new v row f.low p.directory (tree-parts v s.tree));
      names = names-new v row p.free s.names;
      notes = note-whole w (notes-new v row (note-parts v s.notes));
      limits = limit-whole w (limits-new v row p.few p.bytes (limit-parts v s.limits));
      formed = formed-whole w (formed-new v row p.left p.formed f);
      order = order-whole w (order-new v row f.low (tree-parts v s.tree) (order-parts v s.order));
    }

-- a node less
pub sound-without : (v : VolumeState) (id : ℕ) → (id == root_id) ≡ false → has_children v.rows id ≡ false → IsSoundVolume v → IsSoundVolume (without_node id v)
sound-without v id other childless s =
    let w : VolumeState = without_node id v in
    record {
      tree = tree-whole w (tree-without v id other childless (tree-parts v s.tree));
      names = names-without v id s.names;
      notes = note-whole w (notes-without v id (note-parts v s.notes));
      limits = limit-whole w (limits-without v id (limit-parts v s.limits));
      formed = formed-whole w (formed-without v id (formed-parts v s.formed));
      order = order-whole w (order-without v id (order-parts v s.order));
    }

-- a node at another place
pub renamed-formed : (parent : ℕ) (name : List ℕ) → name_fault name ≡ None → (row : Row) → is_formed row ≡ true → is_formed (at_place parent name row) ≡ true
renamed-formed parent name good row h =
    let form : Bool = cond row.dir ((bit_and row.attributes dir_attributes == row.attributes) && ((length row.data_fork == 0) && ((length row.resource_fork == 0) && not row.filed))) (bit_and row.attributes file_attributes == row.attributes) in
    let fit : Bool = has_fit_privileges row.dir row.privileges in
    let both = and_parts fit (is_named row && form) h in
    let e : (is_named row ≡ true) × (form ≡ true) = and_parts (is_named row) form both.1 in
    and_from fit (is_named (at_place parent name row) && form) both.0
    (and_from (is_named (at_place parent name row)) form (and_from (is_none (name_fault name)) (length row.finder == 32) (ap is_none good) (and_parts (is_none (name_fault row.name)) (length row.finder == 32) e.0).1) e.1)

pub sound-moved : (v : VolumeState) (id target : ℕ) (name : List ℕ) → (id == root_id) ≡ false → has_directory v.rows target ≡ true → is_below v.rows (length v.rows) id target ≡ false
    → is_taken v.rows id target name ≡ false → name_fault name ≡ None → IsSoundVolume v → IsSoundVolume (with_moved id target name v)
unfolding with_changed
sound-moved v id target name other there not_below free good s =
    let w : VolumeState = with_moved id target name v in
    let t : TreeParts v = tree-parts v s.tree in
    let move : Row → Row = change_at id (at_place target name) in
    record {
      tree = tree-whole w (tree-moved v id target name other there not_below t);
      names = names-moved v id target name t.apart free s.names;
      notes = note-whole w (notes-mapped v move
          (λ row. cond_both (row.id == id) (at_place target name row) row (λ r. r.id ≡ row.id) (λ same. refl) (λ stays. refl))
          (λ row. cond_both (row.id == id) (at_place target name row) row (λ r. r.dir ≡ row.dir) (λ same. refl) (λ stays. refl)) (note-parts v s.notes));
      limits = limit-whole w (limits-mapped v move
          (λ row. cond_both (row.id == id) (at_place target name row) row (λ r. length r.data_fork + length r.resource_fork ≡ length row.data_fork + length row.resource_fork) (λ same. refl) (λ stays. refl)) (limit-parts v s.limits));
      formed = formed-whole w (formed-mapped v move
          (λ row h. cond_both (row.id == id) (at_place target name row) row (λ r. is_formed r ≡ true) (λ same. renamed-formed target name good row h) (λ stays. h)) (formed-parts v s.formed));
      order = order-whole w (order-mapped v move
          (λ row. cond_both (row.id == id) (at_place target name row) row (λ r. r.id ≡ row.id) (λ same. refl) (λ stays. refl)) (order-parts v s.order));
    }

-- another name in the same place

-- where no other row has the id, two changes of the row that has it that give one row are one
pub changed-same : (rows : List Row) (id : ℕ) (f g : Row → Row) (s : Row) → are_apart (λ (a : Row) b. a.id == b.id) rows ≡ true → find (λ (row : Row). row.id == id) rows ≡ Some s → f s ≡ g s
    → map (change_at id f) rows ≡ map (change_at id g) rows
changed-same [] id f g s apart at_id same = refl
changed-same (x ∷ xs) id f g s apart at_id same =
    let e = and_parts (not (list_any (λ (b : Row). x.id == b.id) xs)) (are_apart (λ (a : Row) b. a.id == b.id) xs) apart in
    cond_both (x.id == id) (Some x) (find (λ (row : Row). row.id == id) xs) (λ o. o ≡ Some s → change_at id f x ∷ map (change_at id f) xs ≡ change_at id g x ∷ map (change_at id g) xs)
    (λ here h.
    let is : x ≡ s = cc in
    let others : list_all (λ (b : Row). not (x.id == b.id)) xs ≡ true = none-all (λ (b : Row). x.id == b.id) xs e.0 in
    let f_here : change_at id f x ≡ f x = cond-true (x.id == id) (f x) x here in
    let g_here : change_at id g x ≡ g x = cond-true (x.id == id) (g x) x here in
    let one : change_at id f x ≡ change_at id g x = f_here ∙ ap f is ∙ same ∙ ap g (sym is) ∙ sym g_here in
    let id_is : x.id ≡ id = eqb-true x.id id here in
    λ i. one i ∷ (unchanged f x id xs id_is others ∙ sym (unchanged g x id xs id_is others)) i)
    (λ other h.
    let f_here : change_at id f x ≡ x = cond-false (x.id == id) (f x) x other in
    let g_here : change_at id g x ≡ x = cond-false (x.id == id) (g x) x other in
    λ i. (f_here ∙ sym g_here) i ∷ changed-same xs id f g s e.1 h same i)
    at_id

pub sound-renamed : (v : VolumeState) (id : ℕ) (s : Row) (name : List ℕ) → (id == root_id) ≡ false → row_at v.rows id ≡ Some s → is_taken v.rows id s.parent name ≡ false → name_fault name ≡ None → IsSoundVolume v → IsSoundVolume (renamed id name v)
unfolding with_changed row_at has_apart_names
sound-renamed v id s name other at_id free good h =
    let w : VolumeState = renamed id name v in
    let t : TreeParts v = tree-parts v h.tree in
    let change : Row → Row = change_at id (named name) in
    let same : map (change_at id (at_place s.parent name)) v.rows ≡ map (change_at id (named name)) v.rows = changed-same v.rows id (at_place s.parent name) (named name) s t.apart at_id refl in
    let k : KeepsTree change = record {
      id = λ row. cond_both (row.id == id) (named name row) row (λ r. r.id ≡ row.id) (λ is. refl) (λ stays. refl);
      parent = λ row. cond_both (row.id == id) (named name row) row (λ r. r.parent ≡ row.parent) (λ is. refl) (λ stays. refl);
      dir = λ row. cond_both (row.id == id) (named name row) row (λ r. r.dir ≡ row.dir) (λ is. refl) (λ stays. refl);
      root_name = λ row root. cond_both (row.id == id) (named name row) row (λ r. r.name ≡ row.name)
          (λ is. absurd (both_ways (id == root_id) other (ap (λ n. n == root_id) (sym (eqb-true row.id id is)) ∙ root))) (λ stays. refl);
    } in
    record {
      tree = tree-whole w (tree-mapped v change k t);
      names = subst (λ rows. has_apart_names (record v { rows = rows }) ≡ true) same (names-moved v id s.parent name t.apart free h.names);
      notes = note-whole w (notes-mapped v change k.id k.dir (note-parts v h.notes));
      limits = limit-whole w (limits-mapped v change
          (λ row. cond_both (row.id == id) (named name row) row (λ r. length r.data_fork + length r.resource_fork ≡ length row.data_fork + length row.resource_fork) (λ is. refl) (λ stays. refl)) (limit-parts v h.limits));
      formed = formed-whole w (formed-mapped v change
          (λ row f. cond_both (row.id == id) (named name row) row (λ r. is_formed r ≡ true) (λ is. renamed-formed row.parent name good row f) (λ stays. f)) (formed-parts v h.formed));
      order = order-whole w (order-mapped v change k.id (order-parts v h.order));
    }
