use Rattle.std.proofs.Common.{◌≡◌, ◌∙◌, ap, sym, subst, refl, List, Some, true, false, not}
use Rattle.std.specs.Prelude.{insert}
use Rattle.std.specs.List.{list_all, filter, remove}
use Rattle.volume_spec.proofs.Rising.{keys-filter}
use Rattle.volume_spec.specs.Edits.{with_changed, without, at_place, is_taken}
use Rattle.volume_spec.specs.Order.{rises, put_in}
use Rattle.volume_spec.specs.VolumeState.{Row}
use Rattle.node_rows.specs.Children.{child_order, node_id}
use Rattle.node_rows.specs.Kept.{IsPlaceOf, RowsValue}
use Rattle.node_rows.specs.lemma.Kept.{AreKept}
use Rattle.node_rows.specs.lemma.Places.{is_other, is_apart, place_for}
use Rattle.node_rows.specs.declared.child.Child.{Child}
use Rattle.node_rows.specs.lemma.Kinds.{child_kinds}
use Rattle.node_rows.proofs.ChildKinds.{kinds-placed}
use Rattle.node_rows.proofs.Keeping.{is-place, no-place, row-there, id-there, same-id, changed-default, changed-nowhere, children-without, apart-sorted, untaken-apart, keeps-placed}
use Rattle.node_rows.proofs.Leaving.{ids-apart, child-there}
use Rattle.node_rows.proofs.rows.Rows.place.Goals as goal

pub take_child-stood-requires-clause-one : goal.take_child-stood-requires-clause-one
take_child-stood-requires-clause-one c = ids-apart c.self.inside.nodes.items c.self.inside.children.items c.self.inside.next c.self.invariant.kept

pub take_child-stood-requires-clause-there : goal.take_child-stood-requires-clause-there
take_child-stood-requires-clause-there c =
    let rows : List Row = c.self.inside.nodes.items in
    let place : IsPlaceOf rows c.args.id.0 (Some c.in-Some.place) = is-place rows c.as_slice.result.now c.args.id.0 c.in-Some.place c.find_node.result c.as_slice.ensures.value c.find_node.ensures c.in-Some.is in
    child-there rows c.self.inside.children.items c.self.inside.next c.args.id.0 c.index-node.result.now (row-there rows c.args.id.0 c.in-Some.place c.index-node.result.now place c.index-node.ensures) c.self.invariant.kept

pub put_child-stands-requires-clause-order : goal.put_child-stands-requires-clause-order
put_child-stands-requires-clause-order c =
    let rows : List Row = c.self.inside.nodes.items in
    let place : IsPlaceOf rows c.args.id.0 (Some c.in-Some.place) = is-place rows c.as_slice.result.now c.args.id.0 c.in-Some.place c.find_node.result c.as_slice.ensures.value c.find_node.ensures c.in-Some.is in
    let taken : c.take_child-stood.new.children.items ≡ filter (is_other c.args.id.0) c.self.inside.children.items =
    c.take_child-stood.ensures.items ∙ ap (λ n. filter (is_other n) c.self.inside.children.items) (same-id rows c.args.id.0 c.in-Some.place c.index-node.result.now place c.index-node.ensures) in
    ap (λ l. rises child_order l) taken ∙ keys-filter child_order (is_other c.args.id.0) c.self.inside.children.items c.self.invariant.kept.order

pub put_child-stands-requires-clause-new : goal.put_child-stands-requires-clause-new
put_child-stands-requires-clause-new c =
    let rows : List Row = c.self.inside.nodes.items in
    let place : IsPlaceOf rows c.args.id.0 (Some c.in-Some.place) = is-place rows c.as_slice.result.now c.args.id.0 c.in-Some.place c.find_node.result c.as_slice.ensures.value c.find_node.ensures c.in-Some.is in
    let taken : c.take_child-stood.new.children.items ≡ filter (is_other c.args.id.0) c.self.inside.children.items =
    c.take_child-stood.ensures.items ∙ ap (λ n. filter (is_other n) c.self.inside.children.items) (same-id rows c.args.id.0 c.in-Some.place c.index-node.result.now place c.index-node.ensures) in
    let child : Child = record { parent = c.args.parent; key = c.args.key; id = c.args.id } in
    let free : is_taken rows c.args.id.0 c.args.parent.0 c.args.name ≡ false = ap (λ (v : RowsValue). is_taken v.rows c.args.id.0 c.args.parent.0 c.args.name) c.self.view_is ∙ c.requires.free in
    ap (λ l. list_all (is_apart child) l) (taken ∙ children-without c.args.id.0 rows c.self.inside.children.items c.self.inside.next c.self.invariant.kept)
    ∙ apart-sorted child (without c.args.id.0 rows) (untaken-apart rows c.args.id.0 c.args.parent.0 c.args.name child refl c.requires.key free)

pub invariant_of-self : goal.invariant_of-self
invariant_of-self c =
    let rows : List Row = c.self.inside.nodes.items in
    let children : List Child = c.self.inside.children.items in
    let child : Child = record { parent = c.args.parent; key = c.args.key; id = c.args.id } in
    let place : IsPlaceOf rows c.args.id.0 (Some c.in-Some.place) = is-place rows c.as_slice.result.now c.args.id.0 c.in-Some.place c.find_node.result c.as_slice.ensures.value c.find_node.ensures c.in-Some.is in
    let free : is_taken rows c.args.id.0 c.args.parent.0 c.args.name ≡ false = ap (λ (v : RowsValue). is_taken v.rows c.args.id.0 c.args.parent.0 c.args.name) c.self.view_is ∙ c.requires.free in
    let changed : c.put_at.new.nodes.items ≡ with_changed c.args.id.0 (at_place c.args.parent.0 c.args.name) rows =
    c.put_at.ensures.items c.index-node.result.now ∙ sym (changed-default (at_place c.args.parent.0 c.args.name) rows c.args.id.0 c.in-Some.place c.index-node.result.now c.self.invariant.kept.rising place) in
    let taken : c.take_child-stood.new.children.items ≡ filter (is_other c.args.id.0) c.self.inside.children.items =
    c.take_child-stood.ensures.items ∙ ap (λ n. filter (is_other n) c.self.inside.children.items) (same-id rows c.args.id.0 c.in-Some.place c.index-node.result.now place c.index-node.ensures) in
    let sorted : c.put_child-stands.new.children.items ≡ put_in child_order child (filter (is_other c.args.id.0) children) = c.put_child-stands.ensures.items ∙ ap (λ l. put_in child_order child l) taken in
    let s : Row = c.index-node.result.now in
    let same : s.id ≡ c.args.id.0 = same-id rows c.args.id.0 c.in-Some.place s place c.index-node.ensures in
    let stood : filter (is_other c.args.id.0) children ≡ remove children c.take_child-stood.result = ap (λ n. filter (is_other n) children) (sym same) ∙ c.take_child-stood.ensures.place in
    let apart : list_all (is_apart child) (filter (is_other c.args.id.0) children) ≡ true = ap (λ l. list_all (is_apart child) l) (children-without c.args.id.0 rows children c.self.inside.next c.self.invariant.kept)
    ∙ apart-sorted child (without c.args.id.0 rows) (untaken-apart rows c.args.id.0 c.args.parent.0 c.args.name child refl c.requires.key free) in
    let kept : AreKept c.put_at.new.nodes.items c.put_child-stands.new.children.items c.self.inside.next =
    subst (λ l. AreKept l c.put_child-stands.new.children.items c.self.inside.next) (sym changed)
    (subst (λ l. AreKept (with_changed c.args.id.0 (at_place c.args.parent.0 c.args.name) rows) l c.self.inside.next) (sym sorted)
    (keeps-placed c.args.id.0 c.args.parent.0 c.args.name child rows children c.self.inside.next
    (id-there rows c.args.id.0 c.in-Some.place c.index-node.result.now place c.index-node.ensures)
    (λ row is. λ i. record { parent = c.args.parent; key = sym c.requires.key i; id = node_id (is i) })
    (untaken-apart rows c.args.id.0 c.args.parent.0 c.args.name child refl c.requires.key free) c.self.invariant.kept)) in
    record {
      kept = kept;
      kinds_are = c.insert.ensures.kinds
          ∙ (λ i. insert (c.remove.ensures.kinds i) ((c.put_child-stands.ensures.place ∙ ap (place_for child) taken) i) (not (c.node.view_is i).dir))
          ∙ kinds-placed c.args.id.0 c.take_child-stood.result (at_place c.args.parent.0 c.args.name) s child rows children c.self.inside.kinds.kinds (λ row. refl) (λ row. refl)
          (row-there rows c.args.id.0 c.in-Some.place s place c.index-node.ensures) refl apart stood c.self.invariant.kinds_are
          ∙ (λ i. child_kinds (sym changed i) (sym sorted i));
    }

pub returns-in-Some-clause-rows : goal.returns-in-Some-clause-rows
returns-in-Some-clause-rows c =
    let rows : List Row = c.self.inside.nodes.items in
    let place : IsPlaceOf rows c.args.id.0 (Some c.in-Some.place) = is-place rows c.as_slice.result.now c.args.id.0 c.in-Some.place c.find_node.result c.as_slice.ensures.value c.find_node.ensures c.in-Some.is in
    c.put_at.ensures.items c.index-node.result.now ∙ sym (changed-default (at_place c.args.parent.0 c.args.name) rows c.args.id.0 c.in-Some.place c.index-node.result.now c.self.invariant.kept.rising place)
    ∙ ap (λ (v : RowsValue). with_changed c.args.id.0 (at_place c.args.parent.0 c.args.name) v.rows) c.self.view_is

pub returns-in-None-clause-rows : goal.returns-in-None-clause-rows
returns-in-None-clause-rows c =
    let rows : List Row = c.self.inside.nodes.items in
    let view : rows ≡ c.args.self.now.rows = ap (λ (v : RowsValue). v.rows) c.self.view_is in
    sym (ap (λ l. with_changed c.args.id.0 (at_place c.args.parent.0 c.args.name) l) (sym view)
    ∙ changed-nowhere (at_place c.args.parent.0 c.args.name) rows c.args.id.0 (no-place rows c.as_slice.result.now c.args.id.0 c.find_node.result c.as_slice.ensures.value c.find_node.ensures c.in-None.is) ∙ view)
