use Rattle.std.proofs.Common.{◌∙◌, sym}
use Rattle.volume_spec.specs.Edits.{filed_as}
use Rattle.volume_tree.proofs.ModifiedDates.{changed-missing, filed-same}
use Rattle.volume_tree.proofs.marks.file_node.Goals as goal

pub returns-in-Some-clause-rows : goal.returns-in-Some-clause-rows
returns-in-Some-clause-rows c =
    c.mark_at.ensures.rows c.args.id.0 c.in-Some.ensures
    ∙ filed-same c.args.rows.now.rows c.args.id.0 c.in-Some.place c.args.filed c.marks_at-marks.result c.filed_marks.result c.nodes-nodes.ensures.rising c.in-Some.ensures c.marks_at-marks.ensures c.filed_marks.ensures

pub returns-in-None-clause-rows : goal.returns-in-None-clause-rows
returns-in-None-clause-rows c = sym (changed-missing c.args.rows.now.rows c.args.id.0 (filed_as c.args.filed) c.in-None.ensures)
