use Rattle.std.proofs.Common.{◌≡◌, ◌∙◌, ap, rules, List}
use Rattle.volume_spec.specs.VolumeState.{Row}
use Rattle.volume_tree.specs.Shown.{fork_at}
use Rattle.volume_keeper.proofs.OfKept.Files.{fork_told}
use Rattle.volume_keeper.proofs.kept.forks.fork_in.Goals as goal

pub returns : goal.returns
returns c = λ file found.
    let rows : c.whole.inside.tree.state.rows ≡ c.args.whole.now.state.rows = search rules in
    fork_told c.args.whole.now.state c.keeps_sound.ensures.sound c.args.id.0 c.args.resource file c.file_fork.result.now c.requires found (c.file_fork.ensures ∙ ap (λ (l : List Row). fork_at l c.args.id.0 c.args.resource) rows)
