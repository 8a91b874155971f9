use Rattle.std.proofs.Common.{◌≡◌, ◌∙◌, ap, sym, rules, w32, to_z, of_z}
use Rattle.std.proofs.lemmas.Int.{to_z-of_z}
use Rattle.volume_spec.specs.Edits.{with_changed}
use Rattle.volume_tree.proofs.ModifiedDates.{changed-missing, dated-same}
use Rattle.volume_tree.specs.lemma.Edited.{modified_on}
use Rattle.volume_tree.proofs.marks.set_modified.Goals as goal

pub returns-in-Some-clause-rows : goal.returns-in-Some-clause-rows
returns-in-Some-clause-rows c =
    let same : to_z w32 (of_z w32 c.args.date) ≡ c.args.date = to_z-of_z w32 c.args.date (search rules) in
    c.mark_at.ensures.rows c.args.id.0 c.in-Some.ensures
    ∙ dated-same c.args.rows.now.rows c.args.id.0 c.in-Some.place (to_z w32 (of_z w32 c.args.date)) c.marks_at-marks.result c.modified_marks.result c.nodes-nodes.ensures.rising c.in-Some.ensures c.marks_at-marks.ensures c.modified_marks.ensures
    ∙ ap (λ date. with_changed c.args.id.0 (modified_on date) c.args.rows.now.rows) same

pub returns-in-None-clause-rows : goal.returns-in-None-clause-rows
returns-in-None-clause-rows c = sym (changed-missing c.args.rows.now.rows c.args.id.0 (modified_on c.args.date) c.in-None.ensures)
