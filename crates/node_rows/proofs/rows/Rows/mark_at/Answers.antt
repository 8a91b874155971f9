use Rattle.std.proofs.Common.{◌≡◌, ◌∙◌, ap, sym, subst, List, [], ℕ, Some, refl, true}
use Rattle.volume_spec.specs.Edits.{with_changed}
use Rattle.volume_spec.specs.VolumeState.{Row, new_row}
use Rattle.node_rows.specs.Kept.{IsPlaceOf, RowsValue, marked}
use Rattle.node_rows.specs.lemma.Kept.{AreKept}
use Rattle.node_rows.specs.lemma.Kinds.{child_kinds}
use Rattle.node_rows.proofs.ChildKinds.{kinds-changed}
use Rattle.node_rows.proofs.Keeping.{changed-default, keeps-marked}
use Rattle.node_rows.proofs.rows.Rows.mark_at.Goals as goal

pub invariant_of-self : goal.invariant_of-self
invariant_of-self c =
    let rows : List Row = c.self.inside.nodes.items in
    let d : Row = new_row true 0 0 0 [] 0 in
    let id : ℕ = c.requires.0 in
    let place : IsPlaceOf rows id (Some c.args.place) = subst (λ (v : RowsValue). IsPlaceOf v.rows id (Some c.args.place)) (sym c.self.view_is) c.requires.1 in
    let changed : c.set_marks.new.nodes.items ≡ with_changed id (marked c.args.marks) rows = c.set_marks.ensures.items d ∙ sym (changed-default (marked c.args.marks) rows id c.args.place d c.self.invariant.kept.rising place) in
    record {
      kept = subst (λ l. AreKept l c.self.inside.children.items c.self.inside.next) (sym changed)
          (keeps-marked id (marked c.args.marks) rows c.self.inside.children.items c.self.inside.next (λ row. refl) (λ row. refl) c.self.invariant.kept);
      kinds_are = c.self.invariant.kinds_are ∙ sym (kinds-changed id (marked c.args.marks) rows c.self.inside.children.items (λ row. refl) (λ row. refl))
          ∙ ap (λ l. child_kinds l c.self.inside.children.items) (sym changed);
    }

pub returns-clause-rows : goal.returns-clause-rows
returns-clause-rows c = λ id at.
    let rows : List Row = c.self.inside.nodes.items in
    let d : Row = new_row true 0 0 0 [] 0 in
    let place : IsPlaceOf rows id (Some c.args.place) = subst (λ (v : RowsValue). IsPlaceOf v.rows id (Some c.args.place)) (sym c.self.view_is) at in
    c.set_marks.ensures.items d ∙ sym (changed-default (marked c.args.marks) rows id c.args.place d c.self.invariant.kept.rising place)
    ∙ ap (λ (v : RowsValue). with_changed id (marked c.args.marks) v.rows) c.self.view_is
