use Rattle.std.proofs.Common.{◌∙◌, ap}
use Rattle.node_rows.specs.Kept.{marked}
use Rattle.node_rows.specs.declared.node.Marks.{Marks}
use Rattle.volume_spec.specs.VolumeState.{Row}
use Rattle.volume_tree.proofs.SetMarks.{marks-set}
use Rattle.volume_tree.specs.lemma.After.{marks_after}
use Rattle.volume_tree.proofs.settings.Settings.marks.Goals as goal

pub returns : goal.returns
returns c =
    ap (λ (m : Marks). marked m c.args.node.now) c.marks_after.ensures
    ∙ ap (λ (r : Row). marked (marks_after c.args.self.now r.dir c.of.result) c.args.node.now) c.node.view_is
    ∙ marks-set c.args.self.now c.of.result c.args.node.now c.of.ensures
