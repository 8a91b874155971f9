use Rattle.std.proofs.Common.{◌≡◌, ◌∙◌, ap, sym}
use Rattle.std.proofs.lemmas.Option.{same_Some}
use Rattle.volume_spec.specs.VolumeState.{VolumeState}
use Rattle.volume_spec.specs.Walk.{row_at}
use Rattle.afp_core_calls.proofs.fork.set_fork_parms.length_at.Goals as goal

pub fork_size-requires : goal.fork_size-requires
fork_size-requires g c = c.requires.file c.kept_at-volume.result.now.state c.kept_at-volume.ensures

pub returns : goal.returns
returns g c = λ v file there found.
    let same : v ≡ c.kept_at-volume.result.now.state = same_Some v c.kept_at-volume.result.now.state (sym there ∙ c.kept_at-volume.ensures) in
    c.fork_size.ensures.size file (ap (λ (x : VolumeState). row_at x.rows c.args.node.0) (sym same) ∙ found)
