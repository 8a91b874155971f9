-- The lists of a volume stay in order.
use Rattle.std.proofs.Common.{◌==◌, ◌≡◌, refl, ℕ, ◌≤◌, true, not, ◌&&◌, List, map, arith, inl, inr}
use Rattle.std.specs.Prelude.{nat_lt}
use Rattle.std.proofs.lemmas.Bool.{and_parts, and_from, cases_Bool, cond_both, eqb-true, lt-ltb}
use Rattle.volume_spec.proofs.Rising.{rises-new, rises-filter, rises-mapped, rising-apart, keys-filter}
use Rattle.volume_spec.proofs.Trees.{TreeParts, drawn}
use Rattle.volume_spec.specs.Edits.{with_row, with_changed, change_at, without, without_node}
use Rattle.volume_spec.specs.Order.{rises, rises_from}
use Rattle.afp_base.specs.Apart.{are_apart}
use Rattle.volume_spec.specs.SoundVolume.{has_rising_ids, is_in_order, icon_key, appl_key, is_in_place}
use Rattle.volume_spec.specs.VolumeState.{Row, Comment, Appl, VolumeState, root_id, first_id}
use Rattle.afp_base.proofs.ListFacts.{all-weaker}

pub record OrderParts (v : VolumeState) : Type 0 where
  pub rows : has_rising_ids v.rows ≡ true
  pub comments : rises_from (λ (comment : Comment). comment.node) 0 v.comments ≡ true
  pub icons : rises icon_key v.icons ≡ true
  pub appls : rises appl_key v.appls ≡ true

pub order-parts : (v : VolumeState) → is_in_order v ≡ true → OrderParts v
unfolding is_in_order
order-parts v h =
    let a = and_parts (has_rising_ids v.rows) (rises_from (λ (comment : Comment). comment.node) 0 v.comments && (rises icon_key v.icons && rises appl_key v.appls)) h in
    let b = and_parts (rises_from (λ (comment : Comment). comment.node) 0 v.comments) (rises icon_key v.icons && rises appl_key v.appls) a.1 in
    let c = and_parts (rises icon_key v.icons) (rises appl_key v.appls) b.1 in
    record { rows = a.0; comments = b.0; icons = c.0; appls = c.1 }

pub order-whole : (v : VolumeState) → OrderParts v → is_in_order v ≡ true
unfolding is_in_order
order-whole v p =
    and_from (has_rising_ids v.rows) _ p.rows
    (and_from (rises_from (λ (comment : Comment). comment.node) 0 v.comments) _ p.comments
    (and_from (rises icon_key v.icons) (rises appl_key v.appls) p.icons p.appls))

-- the rows alone

pub rising-ids-differ : (rows : List Row) → has_rising_ids rows ≡ true → are_apart (λ (a : Row) b. a.id == b.id) rows ≡ true
unfolding has_rising_ids
rising-ids-differ rows h = rising-apart (λ (row : Row). row.id) 0 rows h

pub new-rises : (v : VolumeState) (row : Row) → first_id ≤ v.next_id → TreeParts v → has_rising_ids v.rows ≡ true → has_rising_ids (with_row row v).rows ≡ true
unfolding has_rising_ids
new-rises v row low tree h =
    rises-new (λ (r : Row). r.id) 0 v.rows (record row { id = v.next_id }) (omega arith)
    (all-weaker (is_in_place v) (λ r. nat_lt r.id v.next_id) v.rows (λ r placed. elim (cases_Bool (r.id == root_id)) [
      | inl root ↦ let is : r.id ≡ 2 = eqb-true r.id root_id root in lt-ltb r.id v.next_id (omega arith)
      | inr other ↦ lt-ltb r.id v.next_id (drawn v r other placed).high
    ]) tree.placed) h

pub gone-rises : (rows : List Row) (id : ℕ) → has_rising_ids rows ≡ true → has_rising_ids (without id rows) ≡ true
unfolding has_rising_ids without
gone-rises rows id h = rises-filter (λ (row : Row). row.id) 0 (λ row. not (row.id == id)) rows h

mapped-rises : (rows : List Row) (change : Row → Row) → ((row : Row) → (change row).id ≡ row.id) → has_rising_ids rows ≡ true → has_rising_ids (map change rows) ≡ true
unfolding has_rising_ids
mapped-rises rows change same h = rises-mapped (λ (row : Row). row.id) 0 change rows same h

pub changed-rises : (rows : List Row) (id : ℕ) (change : Row → Row) → ((row : Row) → (change row).id ≡ row.id) → has_rising_ids rows ≡ true → has_rising_ids (with_changed id change rows) ≡ true
unfolding with_changed
changed-rises rows id change same h =
    mapped-rises rows (change_at id change) (λ row. cond_both (row.id == id) (change row) row (λ r. r.id ≡ row.id) (λ is. same row) (λ other. refl)) h

-- all lists

pub order-new : (v : VolumeState) (row : Row) → first_id ≤ v.next_id → TreeParts v → OrderParts v → OrderParts (with_row row v)
order-new v row low tree p = record { rows = new-rises v row low tree p.rows; comments = p.comments; icons = p.icons; appls = p.appls }

pub order-mapped : (v : VolumeState) (change : Row → Row) → ((row : Row) → (change row).id ≡ row.id) → OrderParts v → OrderParts (record v { rows = map change v.rows })
order-mapped v change same p = record { rows = mapped-rises v.rows change same p.rows; comments = p.comments; icons = p.icons; appls = p.appls }

pub order-without : (v : VolumeState) (id : ℕ) → OrderParts v → OrderParts (without_node id v)
order-without v id p = record {
  rows = gone-rises v.rows id p.rows;
  comments = rises-filter (λ (comment : Comment). comment.node) 0 (λ comment. not (comment.node == id)) v.comments p.comments;
  icons = p.icons;
  appls = keys-filter appl_key (λ (appl : Appl). not (appl.node == id)) v.appls p.appls;
}
