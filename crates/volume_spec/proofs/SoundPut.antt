-- Another row in the place of one: what it owes, and that the volume stays sound.
use Rattle.std.proofs.Common.{◌==◌, ◌≡◌, ◌∙◌, false, ◌&&◌, cond, ap, sym, refl, subst, ℕ, ◌+◌, ◌≤◌, Bool, true, not, List, [], ◌∷◌, map, length, Some, arith}
use Rattle.std.specs.Prelude.{bit_and}
use Rattle.std.specs.List.{list_any, list_all, find}
use Rattle.std.proofs.lemmas.Bool.{and_parts, and_from, cond_both, cond-true, cond-false, eqb-true}
use Rattle.std.proofs.lemmas.List.Sums.{sum_by-cons}
use Rattle.volume_spec.proofs.Formed.{FormedParts, LimitParts, formed-parts, formed-whole, limit-parts, limit-whole}
use Rattle.volume_spec.proofs.NamesApart.{names-mapped}
use Rattle.volume_spec.proofs.Notes.{NoteParts, note-parts, note-whole, notes-mapped}
use Rattle.volume_spec.proofs.Orders.{OrderParts, order-parts, order-whole, order-mapped}
use Rattle.volume_spec.proofs.Places.{unchanged}
use Rattle.volume_spec.proofs.SoundEdits.{changed-same}
use Rattle.volume_spec.proofs.Trees.{TreeParts, KeepsPlace, tree-parts, tree-whole, tree-mapped, keeps-tree, keeps-at}
use Rattle.volume_spec.specs.Edits.{with_changed, change_at, put, with_forks_of, exchanged}
use Rattle.afp_base.specs.Apart.{are_apart}
use Rattle.afp_base.specs.Limits.{most_fork_bytes}
use Rattle.volume_spec.specs.SoundVolume.{is_named, dir_attributes, file_attributes, TakesRow, row_bytes, IsSoundVolume, has_apart_names, is_formed, fork_bytes, most_nodes, has_fit_privileges}
use Rattle.volume_spec.specs.VolumeState.{Row, VolumeState}
use Rattle.volume_spec.specs.Walk.{row_at}
use Rattle.afp_base.proofs.ListFacts.{find-all, find-passes, length-mapped, none-all}

-- the row with all fields of another but those of its place
abbrev marked : Row → Row → Row
marked t row = record t { id = row.id; parent = row.parent; dir = row.dir; name = row.name }

put-all : (p : Row → Bool) (id : ℕ) (t : Row) (rows : List Row) → list_all p rows ≡ true → p t ≡ true → list_all p (map (change_at id (put t)) rows) ≡ true
put-all p id t [] h here = refl
put-all p id t (row ∷ rows) h here =
    let e = and_parts (p row) (list_all p rows) h in
    and_from (p (change_at id (put t) row)) (list_all p (map (change_at id (put t)) rows))
    (cond_both (row.id == id) t row (λ r. p r ≡ true) (λ is. here) (λ other. e.0)) (put-all p id t rows e.1 here)

-- all bytes but those of the one row stay
put-bytes : (id : ℕ) (s t : Row) (rows : List Row) → are_apart (λ (a : Row) b. a.id == b.id) rows ≡ true → find (λ (row : Row). row.id == id) rows ≡ Some s
    → fork_bytes (map (change_at id (put t)) rows) + row_bytes s ≡ fork_bytes rows + row_bytes t
put-bytes id s t [] apart at_id = absurd (cc)
put-bytes id s t (x ∷ xs) apart at_id =
    let e = and_parts (not (list_any (λ (b : Row). x.id == b.id) xs)) (are_apart (λ (a : Row) b. a.id == b.id) xs) apart in
    let whole : fork_bytes (x ∷ xs) ≡ row_bytes x + fork_bytes xs = sum_by-cons row_bytes x xs in
    let new : fork_bytes (change_at id (put t) x ∷ map (change_at id (put t)) xs) ≡ row_bytes (change_at id (put t) x) + fork_bytes (map (change_at id (put t)) xs) = sum_by-cons row_bytes (change_at id (put t) x) (map (change_at id (put t)) xs) in
    cond_both (x.id == id) (Some x) (find (λ (row : Row). row.id == id) xs) (λ o. o ≡ Some s → fork_bytes (map (change_at id (put t)) (x ∷ xs)) + row_bytes s ≡ fork_bytes (x ∷ xs) + row_bytes t)
    (λ here h.
    let same : x ≡ s = cc in
    let first : row_bytes (change_at id (put t) x) ≡ row_bytes t = ap row_bytes (cond-true (x.id == id) t x here) in
    let rest : fork_bytes (map (change_at id (put t)) xs) ≡ fork_bytes xs = ap fork_bytes (unchanged (put t) x id xs (eqb-true x.id id here) (none-all (λ (b : Row). x.id == b.id) xs e.0)) in
    let old : row_bytes x ≡ row_bytes s = ap row_bytes same in
    omega arith)
    (λ other h.
    let first : row_bytes (change_at id (put t) x) ≡ row_bytes x = ap row_bytes (cond-false (x.id == id) t x other) in
    let rest : fork_bytes (map (change_at id (put t)) xs) + row_bytes s ≡ fork_bytes xs + row_bytes t = put-bytes id s t xs e.1 h in
    omega arith)
    at_id

-- all of soundness but the limits
pub record IsSoundButLimits (v : VolumeState) : Type 0 where
  pub tree : TreeParts v
  pub names : has_apart_names v ≡ true
  pub notes : NoteParts v
  pub formed : FormedParts v
  pub order : OrderParts v

pub but-limits : (v : VolumeState) → IsSoundVolume v → IsSoundButLimits v
but-limits v h = record { tree = tree-parts v h.tree; names = h.names; notes = note-parts v h.notes; formed = formed-parts v h.formed; order = order-parts v h.order }

pub with-limits : (v : VolumeState) → IsSoundButLimits v → LimitParts v → IsSoundVolume v
with-limits v h limits = record { tree = tree-whole v h.tree; names = h.names; notes = note-whole v h.notes; limits = limit-whole v limits; formed = formed-whole v h.formed; order = order-whole v h.order }

-- a file with other forks is formed
forks-formed : (from to : Row) → to.dir ≡ false → is_formed to ≡ true → is_formed (with_forks_of from to) ≡ true
forks-formed from to file h = go to.dir file h
  where
    rest : Row → Bool
    rest row = (bit_and row.attributes dir_attributes == row.attributes) && ((length row.data_fork == 0) && ((length row.resource_fork == 0) && not row.filed))

    go : (dir : Bool) → dir ≡ false → (has_fit_privileges dir to.privileges && (is_named to && cond dir (rest to) (bit_and to.attributes file_attributes == to.attributes))) ≡ true
        → (has_fit_privileges dir to.privileges && (is_named to && cond dir (rest (with_forks_of from to)) (bit_and to.attributes file_attributes == to.attributes))) ≡ true
    go true is h = absurd (cc)
    go false is h = h

-- another row in its place
pub near-put : (v : VolumeState) (id : ℕ) (s t : Row) → row_at v.rows id ≡ Some s → TakesRow s t → IsSoundButLimits v → IsSoundButLimits (record v { rows = with_changed id (put t) v.rows })
unfolding row_at with_changed has_apart_names
near-put v id s t at_id takes h =
    let keeps : KeepsPlace (change_at id (marked t)) = keeps-at id (marked t) (record { id = λ row. refl; parent = λ row. refl; dir = λ row. refl; name = λ row. refl }) in
    let is : marked t s ≡ t = λ i. record t { id = sym takes.id i; parent = sym takes.parent i; dir = sym takes.dir i; name = sym takes.name i } in
    let same : map (change_at id (marked t)) v.rows ≡ map (change_at id (put t)) v.rows = changed-same v.rows id (marked t) (put t) s h.tree.apart at_id is in
    let formed : FormedParts v = h.formed in
    record {
      tree = subst (λ rows. TreeParts (record v { rows = rows })) same (tree-mapped v (change_at id (marked t)) (keeps-tree (change_at id (marked t)) keeps) h.tree);
      names = subst (λ rows. has_apart_names (record v { rows = rows }) ≡ true) same (names-mapped v (change_at id (marked t)) keeps h.names);
      notes = subst (λ rows. NoteParts (record v { rows = rows })) same (notes-mapped v (change_at id (marked t)) keeps.id keeps.dir h.notes);
      formed = record {
        low = formed.low;
        high = formed.high;
        rows = put-all is_formed id t v.rows formed.rows takes.formed;
        one_comment = formed.one_comment;
        comments = formed.comments;
        one_icon = formed.one_icon;
        icons = formed.icons;
        one_appl = formed.one_appl;
        appls = formed.appls;
      };
      order = subst (λ rows. OrderParts (record v { rows = rows })) same (order-mapped v (change_at id (marked t)) keeps.id h.order);
    }

-- the bytes and the number of rows after it
pub put-sizes : (v : VolumeState) (id : ℕ) (s t : Row) → row_at v.rows id ≡ Some s → TreeParts v
    → (fork_bytes (with_changed id (put t) v.rows) + row_bytes s ≡ fork_bytes v.rows + row_bytes t) × (length (with_changed id (put t) v.rows) ≡ length v.rows)
unfolding row_at with_changed
put-sizes v id s t at_id tree = (put-bytes id s t v.rows tree.apart at_id, length-mapped (change_at id (put t)) v.rows)

pub sound-put : (v : VolumeState) (id : ℕ) (s t : Row) → row_at v.rows id ≡ Some s → TakesRow s t → fork_bytes v.rows + row_bytes t ≤ most_fork_bytes + row_bytes s → IsSoundVolume v → IsSoundVolume (record v { rows = with_changed id (put t) v.rows })
sound-put v id s t at_id takes fits h =
    let w : VolumeState = record v { rows = with_changed id (put t) v.rows } in
    let limits : LimitParts v = limit-parts v h.limits in
    let sizes = put-sizes v id s t at_id (tree-parts v h.tree) in
    let bytes : fork_bytes w.rows + row_bytes s ≡ fork_bytes v.rows + row_bytes t = sizes.0 in
    let count : length w.rows ≡ length v.rows = sizes.1 in
    let few : length v.rows ≤ most_nodes = limits.nodes in
    with-limits w (near-put v id s t at_id takes (but-limits v h)) (record { nodes = omega arith; bytes = omega arith; icons = limits.icons; appls = limits.appls })

-- the row of another id is still there
other-row : (rows : List Row) (id other : ℕ) (t : Row) → (id == other) ≡ false → t.id ≡ id → row_at (with_changed id (put t) rows) other ≡ row_at rows other
unfolding row_at with_changed
other-row [] id other t differ is = refl
other-row (row ∷ rows) id other t differ is =
    let rest : find (λ (r : Row). r.id == other) (map (change_at id (put t)) rows) ≡ find (λ (r : Row). r.id == other) rows = other-row rows id other t differ is in
    cond_both (row.id == id) t row (λ r. cond (r.id == other) (Some r) (find (λ (q : Row). q.id == other) (map (change_at id (put t)) rows)) ≡ cond (row.id == other) (Some row) (find (λ (q : Row). q.id == other) rows))
    (λ same. cond-false (t.id == other) (Some t) (find (λ (q : Row). q.id == other) (map (change_at id (put t)) rows)) (ap (λ n. n == other) is ∙ differ)
    ∙ rest ∙ sym (cond-false (row.id == other) (Some row) (find (λ (q : Row). q.id == other) rows) (ap (λ n. n == other) (eqb-true row.id id same) ∙ differ)))
    (λ stays. ap (λ o. cond (row.id == other) (Some row) o) rest)

-- the forks and modified dates of two files change places
pub sound-exchanged : (v : VolumeState) (a b : ℕ) (s t : Row) → (a == b) ≡ false → row_at v.rows a ≡ Some s → row_at v.rows b ≡ Some t → s.dir ≡ false → t.dir ≡ false → IsSoundVolume v
    → IsSoundVolume (exchanged a b s t v)
unfolding row_at
sound-exchanged v a b s t differ at_a at_b file_s file_t h =
    let s' : Row = with_forks_of t s in
    let t' : Row = with_forks_of s t in
    let u : VolumeState = record v { rows = with_changed a (put s') v.rows } in
    let w : VolumeState = record u { rows = with_changed b (put t') u.rows } in
    let n : IsSoundButLimits v = but-limits v h in
    let takes_s : TakesRow s s' = record { id = refl; parent = refl; dir = refl; name = refl; formed = forks-formed t s file_s (find-all (λ (r : Row). r.id == a) is_formed v.rows s at_a n.formed.rows) } in
    let takes_t : TakesRow t t' = record { id = refl; parent = refl; dir = refl; name = refl; formed = forks-formed s t file_t (find-all (λ (r : Row). r.id == b) is_formed v.rows t at_b n.formed.rows) } in
    let near_u : IsSoundButLimits u = near-put v a s s' at_a takes_s n in
    let id_s : s.id ≡ a = eqb-true s.id a (find-passes (λ (r : Row). r.id == a) v.rows s at_a) in
    let still_b : row_at u.rows b ≡ Some t = other-row v.rows a b s' differ id_s ∙ at_b in
    let one = put-sizes v a s s' at_a n.tree in
    let two = put-sizes u b t t' still_b near_u.tree in
    let limits : LimitParts v = limit-parts v h.limits in
    let bytes_u : fork_bytes u.rows + row_bytes s ≡ fork_bytes v.rows + row_bytes t = one.0 in
    let bytes_w : fork_bytes w.rows + row_bytes t ≡ fork_bytes u.rows + row_bytes s = two.0 in
    let count_u : length u.rows ≡ length v.rows = one.1 in
    let count_w : length w.rows ≡ length u.rows = two.1 in
    let few : length v.rows ≤ most_nodes = limits.nodes in
    let small : fork_bytes v.rows ≤ most_fork_bytes = limits.bytes in
    with-limits w (near-put u b t t' still_b takes_t near_u) (record { nodes = omega arith; bytes = omega arith; icons = limits.icons; appls = limits.appls })
