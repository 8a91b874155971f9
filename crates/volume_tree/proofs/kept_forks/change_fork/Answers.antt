use Rattle.std.proofs.Common.{◌∙◌, ap, sym, subst}
use Rattle.std.specs.Ordering.{nat_cmp}
use Rattle.fork_bytes.specs.Plan.{IsForkPlan as IsForkPlan}
use Rattle.sorted_map.specs.map.Entries.{at}
use Rattle.volume_tree.specs.lemma.ForkEffect.{kept_fork}
use Rattle.volume_tree.proofs.Writing.{put-changed}
use Rattle.volume_tree.proofs.kept_forks.change_fork.Goals as goal

pub returns-clause-changed : goal.returns-clause-changed
returns-clause-changed c = λ after plan.
    let same = c.replace-kept.ensures.old ∙ ap (at nat_cmp c.args.forks.now) c.from-key.ensures in
    put-changed c.args.resource after c.args.forks.now c.replace-kept.new.self c.replace.new.self c.from-key.result c.args.id.0 c.replace-kept.result c.change.new.self c.from-key.ensures c.replace-kept.ensures.old c.replace.ensures.updates
    (c.change.ensures after (subst (λ o. IsForkPlan (kept_fork c.args.resource o) after c.args.plan) (sym same) plan))
