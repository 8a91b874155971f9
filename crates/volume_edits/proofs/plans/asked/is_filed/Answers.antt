use Rattle.std.proofs.Common.{◌∙◌, ◌&&◌, sym, not}
use Rattle.volume_spec.proofs.SeenRows.{test-found}
use Rattle.volume_spec.proofs.Trees.{tree-parts}
use Rattle.volume_tree.proofs.Showing.{test-missing}
use Rattle.volume_spec.specs.FileIds.{is_filed}
use Rattle.volume_spec.specs.VolumeState.{Row}
use Rattle.volume_edits.proofs.plans.asked.is_filed.Goals as goal

pub returns-in-Some : goal.returns-in-Some
unfolding is_filed
returns-in-Some c =
    c.is_filed_node.ensures
    ∙ sym (test-found c.args.whole.now.state.rows c.args.id.0 (λ (row : Row). not row.dir && row.filed) c.in-Some.node (tree-parts c.args.whole.now.state c.keeps_sound.ensures.sound.tree).apart (sym c.in-Some.ensures))

pub returns-in-None : goal.returns-in-None
unfolding is_filed
returns-in-None c = sym (test-missing c.args.whole.now.state.rows c.args.id.0 (λ (row : Row). not row.dir && row.filed) (sym c.in-None.ensures))
