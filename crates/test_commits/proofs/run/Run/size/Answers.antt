use Rattle.std.proofs.Common.{◌≡◌, ◌∙◌, sym, true}
use Rattle.volume_spec.specs.SoundVolume.{has_file}
use Rattle.test_commits.proofs.Plans.{fork_may}
use Rattle.test_commits.proofs.run.Run.size.Goals as goal

pub plan_fork_length-planned-requires : goal.plan_fork_length-planned-requires
plan_fork_length-planned-requires c =
    let there : has_file c.args.self.now.kept.state.rows c.args.file.0 ≡ true = sym c.has_file.ensures ∙ c.if-not-has_file.false in
    (λ i. has_file (c.whole-whole.ensures i).rows (c.data_fork-fork.ensures.node i)) ∙ there

pub commit-requires : goal.commit-requires
commit-requires c = fork_may c.args.self.now.kept.state c.whole-whole.result.now.state c.plan_fork_length-planned.result c.whole-whole.ensures c.plan_fork_length-planned.ensures.may
