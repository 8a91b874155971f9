use Rattle.volume_edits.specs.plans.Requests.{tree_call}
use Rattle.test_commits.proofs.Plans.{tree_may}
use Rattle.test_commits.proofs.run.Run.change.Goals as goal

pub commit-requires : goal.commit-requires
commit-requires c =
    tree_may c.args.self.now.kept.state c.whole-whole.result.now.state _ c.args.self.now.now (tree_call c.args.call.now) c.plan_tree_call-planned.result c.whole-whole.ensures c.requires c.plan_tree_call-planned.ensures.plan
