use Rattle.volume_edits.specs.plans.Requests.{tree_call}
use Rattle.volume_tree.specs.Shown.{opened}
use Rattle.volume_edits.proofs.OfPlans.TreeCalls.{tree-effect, tree-some}
use Rattle.volume_edits.proofs.plans.tree_call.plan_tree_call.Goals as goal

pub returns-clause-effect : goal.returns-clause-effect
returns-clause-effect c = tree-effect c.args.whole.now.state c.args.user c.args.now (tree_call c.args.call.now) c.plan_by_call.result c.effects_are_edits.ensures.tree c.plan_by_call.ensures.plan

pub returns-clause-some : goal.returns-clause-some
returns-clause-some c = tree-some c.args.whole.now.state c.args.user (opened c.args.opens.now) c.args.now (tree_call c.args.call.now) c.plan_by_call.result c.requires c.plan_by_call.ensures.refused c.plan_by_call.ensures.plan
