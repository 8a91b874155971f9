use Rattle.std.proofs.Common.{◌∙◌, ap}
use Rattle.volume_tree.proofs.Restoring.{forks-next}
use Rattle.volume_tree.specs.lemma.Restored.{or_forks, own_forks}
use Rattle.volume_tree.proofs.restore.all_forks.Goals as goal

pub loop-loaded-preserved : goal.loop-loaded-preserved
loop-loaded-preserved c = λ q.
    c.in_ok-keep_forks.ensures q ∙ ap (λ o. or_forks (own_forks c.loaded-item.result q) o) (c.loop-loaded.invariant q)
    ∙ forks-next c.args.nodes.now c.loop-loaded.loaded-index c.loaded-item.result q c.loop-loaded-test.true c.loaded-item.is
