use Rattle.std.proofs.Common.{◌≡◌, ◌∙◌, ap, sym, subst, ◌==◌, true, not, List, None, arith}
use Rattle.volume_spec.specs.VolumeState.{Row}
use Rattle.volume_spec.specs.Walk.{child_by_key, row_at}
use Rattle.std.specs.List.{list_all}
use Rattle.node_rows.specs.Children.{child_of}
use Rattle.node_rows.specs.Kept.{RowsValue, admitted}
use Rattle.node_rows.specs.lemma.Kept.{AreKept}
use Rattle.node_rows.specs.lemma.Kinds.{child_kinds}
use Rattle.node_rows.specs.lemma.Places.{is_apart}
use Rattle.node_rows.specs.declared.child.Child.{Child}
use Rattle.node_rows.proofs.ChildKinds.{as-many, kinds-new}
use Rattle.node_rows.proofs.Keeping.{free-child, free-apart, none-there, keeps-new}
use Rattle.node_rows.proofs.rows.Rows.admit.Goals as goal

pub put_all-requires-clause-free : goal.put_all-requires-clause-free
put_all-requires-clause-free c =
    let rows : List Row = c.self.inside.nodes.items in
    let free : child_by_key rows c.args.node.parent c.args.key ≡ None = ap (λ (v : RowsValue). child_by_key v.rows c.args.node.parent c.args.key) c.self.view_is ∙ c.requires.free in
    free-child rows c.self.inside.children.items c.self.inside.next c.args.node c.args.key c.requires.key free c.self.invariant.kept

pub put_all-requires-clause-kinds : goal.put_all-requires-clause-kinds
put_all-requires-clause-kinds c = as-many c.self.inside.nodes.items c.self.inside.children.items c.self.inside.kinds.kinds c.self.invariant.kinds_are

pub invariant_of-self : goal.invariant_of-self
invariant_of-self c =
    let rows : List Row = c.self.inside.nodes.items in
    let children : List Child = c.self.inside.children.items in
    let free : child_by_key rows c.args.node.parent c.args.key ≡ None = ap (λ (v : RowsValue). child_by_key v.rows c.args.node.parent c.args.key) c.self.view_is ∙ c.requires.free in
    let new : row_at rows c.args.node.id ≡ None = ap (λ (v : RowsValue). row_at v.rows c.args.node.id) c.self.view_is ∙ c.requires.new in
    let next_is : c.self.inside.next ≡ c.args.self.now.next_id = ap (λ (v : RowsValue). v.next_id) c.self.view_is in
    let others : list_all (λ (row : Row). not (row.id == c.args.node.id)) rows ≡ true = none-there rows c.args.node.id new in
    let apart : list_all (is_apart (child_of c.args.node)) children ≡ true = free-child rows children c.self.inside.next c.args.node c.args.key c.requires.key free c.self.invariant.kept in
    let kept : AreKept c.put_all.new.nodes.items c.put_all.new.children.items c.self.inside.next =
    subst (λ l. AreKept l c.put_all.new.children.items c.self.inside.next) (sym c.put_all.ensures.nodes)
    (subst (λ l. AreKept (admitted c.args.node rows) l c.self.inside.next) (sym c.put_all.ensures.children)
    (keeps-new c.args.node rows children c.self.inside.next c.self.inside.next others (free-apart c.args.node rows c.args.key c.requires.key free)
    (omega arith) (omega arith) (omega arith) c.self.invariant.kept.high c.self.invariant.kept)) in
    record {
      kept = kept;
      kinds_are = c.put_all.ensures.kinds
          ∙ kinds-new c.args.node rows children c.self.inside.kinds.kinds c.self.inside.next others apart c.self.invariant.kept c.self.invariant.kinds_are
          ∙ (λ i. child_kinds (sym c.put_all.ensures.nodes i) (sym c.put_all.ensures.children i));
    }
