use Rattle.std.proofs.Common.{◌≡◌, ◌∙◌, ap, sym, subst, List, Some, arith}
use Rattle.std.specs.List.{filter, remove}
use Rattle.volume_spec.specs.Edits.{without}
use Rattle.volume_spec.specs.VolumeState.{Row}
use Rattle.node_rows.specs.Kept.{IsPlaceOf, RowsValue}
use Rattle.node_rows.specs.lemma.Kept.{AreKept}
use Rattle.node_rows.specs.lemma.Places.{is_other}
use Rattle.node_rows.specs.declared.child.Child.{Child}
use Rattle.node_rows.specs.lemma.Kinds.{child_kinds}
use Rattle.node_rows.proofs.ChildKinds.{as-many, kinds-gone}
use Rattle.node_rows.proofs.Keeping.{is-place, no-place, row-there, same-id, gone-there, gone-nowhere, keeps-gone}
use Rattle.node_rows.proofs.Leaving.{ids-apart, child-there}
use Rattle.node_rows.proofs.rows.Rows.remove.Goals as goal

pub take_child-stood-requires-clause-one : goal.take_child-stood-requires-clause-one
take_child-stood-requires-clause-one c = ids-apart c.self.inside.nodes.items c.self.inside.children.items c.self.inside.next c.self.invariant.kept

pub take_child-stood-requires-clause-there : goal.take_child-stood-requires-clause-there
take_child-stood-requires-clause-there c =
    let rows : List Row = c.self.inside.nodes.items in
    let place : IsPlaceOf rows c.args.id.0 (Some c.in-Some.place) = is-place rows c.as_slice.result.now c.args.id.0 c.in-Some.place c.find_node.result c.as_slice.ensures.value c.find_node.ensures c.in-Some.is in
    child-there rows c.self.inside.children.items c.self.inside.next c.args.id.0 c.index.result.now (row-there rows c.args.id.0 c.in-Some.place c.index.result.now place c.index.ensures) c.self.invariant.kept

pub remove-requires : goal.remove-requires
remove-requires c =
    let many = as-many c.self.inside.nodes.items c.self.inside.children.items c.self.inside.kinds.kinds c.self.invariant.kinds_are in
    omega (arith, many, c.take_child-stood.ensures.within)

pub invariant_of-self : goal.invariant_of-self
invariant_of-self c =
    let rows : List Row = c.self.inside.nodes.items in
    let children : List Child = c.self.inside.children.items in
    let place : IsPlaceOf rows c.args.id.0 (Some c.in-Some.place) = is-place rows c.as_slice.result.now c.args.id.0 c.in-Some.place c.find_node.result c.as_slice.ensures.value c.find_node.ensures c.in-Some.is in
    let taken : c.take_child-stood.new.children.items ≡ filter (is_other c.args.id.0) c.self.inside.children.items =
    c.take_child-stood.ensures.items ∙ ap (λ n. filter (is_other n) c.self.inside.children.items) (same-id rows c.args.id.0 c.in-Some.place c.index.result.now place c.index.ensures) in
    let gone : c.remove-node.new.self.items ≡ without c.args.id.0 rows = c.remove-node.ensures.items ∙ sym (gone-there rows c.args.id.0 c.in-Some.place c.index.result.now c.self.invariant.kept.rising place c.index.ensures) in
    let same : c.index.result.now.id ≡ c.args.id.0 = same-id rows c.args.id.0 c.in-Some.place c.index.result.now place c.index.ensures in
    let stood : filter (is_other c.args.id.0) children ≡ remove children c.take_child-stood.result = ap (λ n. filter (is_other n) children) (sym same) ∙ c.take_child-stood.ensures.place in
    record {
      kept = subst (λ l. AreKept l c.take_child-stood.new.children.items c.self.inside.next) (sym gone)
          (subst (λ l. AreKept (without c.args.id.0 rows) l c.self.inside.next) (sym taken) (keeps-gone c.args.id.0 rows children c.self.inside.next c.self.invariant.kept));
      kinds_are = c.remove.ensures.kinds ∙ kinds-gone c.args.id.0 c.take_child-stood.result rows children c.self.inside.kinds.kinds stood c.self.invariant.kinds_are
          ∙ (λ i. child_kinds (sym gone i) (sym taken i));
    }

pub returns-in-Some-clause-rows : goal.returns-in-Some-clause-rows
returns-in-Some-clause-rows c =
    let rows : List Row = c.self.inside.nodes.items in
    let place : IsPlaceOf rows c.args.id.0 (Some c.in-Some.place) = is-place rows c.as_slice.result.now c.args.id.0 c.in-Some.place c.find_node.result c.as_slice.ensures.value c.find_node.ensures c.in-Some.is in
    c.remove-node.ensures.items ∙ sym (gone-there rows c.args.id.0 c.in-Some.place c.index.result.now c.self.invariant.kept.rising place c.index.ensures)
    ∙ ap (λ (v : RowsValue). without c.args.id.0 v.rows) c.self.view_is

pub returns-in-None-clause-rows : goal.returns-in-None-clause-rows
returns-in-None-clause-rows c =
    let rows : List Row = c.self.inside.nodes.items in
    let view : rows ≡ c.args.self.now.rows = ap (λ (v : RowsValue). v.rows) c.self.view_is in
    sym (ap (λ l. without c.args.id.0 l) (sym view)
    ∙ gone-nowhere rows c.args.id.0 (no-place rows c.as_slice.result.now c.args.id.0 c.find_node.result c.as_slice.ensures.value c.find_node.ensures c.in-None.is) ∙ view)
