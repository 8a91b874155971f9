use Rattle.std.proofs.Common.{◌∙◌, sym}
use Rattle.volume_spec.specs.SetFileDirParms.{with_settings}
use Rattle.volume_tree.proofs.ModifiedDates.{changed-missing, set-same}
use Rattle.volume_tree.proofs.marks.set_node.Goals as goal

pub returns-in-Some-clause-rows : goal.returns-in-Some-clause-rows
returns-in-Some-clause-rows c =
    c.mark_at.ensures.rows c.args.id.0 c.in-Some.ensures
    ∙ set-same c.args.rows.now.rows c.args.id.0 c.in-Some.place c.args.settings.now c.marks_set-marks.result c.nodes-nodes.ensures.rising c.in-Some.ensures c.marks_set-marks.ensures

pub returns-in-None-clause-rows : goal.returns-in-None-clause-rows
returns-in-None-clause-rows c = sym (changed-missing c.args.rows.now.rows c.args.id.0 (with_settings c.args.settings.now) c.in-None.ensures)
