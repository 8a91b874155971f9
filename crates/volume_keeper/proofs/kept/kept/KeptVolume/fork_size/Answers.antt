use Rattle.std.proofs.Common.{◌≡◌, ◌∙◌, ◌≤◌, ℕ, Some, ap, length, subst, sym}
use Rattle.volume_spec.specs.ForkEffect.{fork_of}
use Rattle.afp_base.specs.Limits.{most_fork_bytes}
use Rattle.volume_spec.specs.SoundVolume.{IsSoundVolume}
use Rattle.volume_spec.specs.VolumeState.{Row, VolumeState}
use Rattle.volume_spec.specs.Walk.{row_at}
use Rattle.volume_keeper.proofs.OfKept.GivenForks.{file_few}
use Rattle.volume_keeper.proofs.kept.kept.KeptVolume.fork_size.Goals as goal

pub returns-clause-size : goal.returns-clause-size
returns-clause-size g c = λ file found.
    let is : c.self.inside.whole.state ≡ c.args.self.now.state = λ i. (c.self.view_is i).state in
    c.len.ensures ∙ ap length (c.fork_in-fork.ensures file (ap (λ (u : VolumeState). row_at u.rows c.args.id.0) is ∙ found))

pub returns-clause-few : goal.returns-clause-few
returns-clause-few g c =
    let v = c.args.self.now.state in
    let is : c.self.inside.whole.state ≡ v = λ i. (c.self.view_is i).state in
    let sound : IsSoundVolume v = subst IsSoundVolume is c.keeps_sound.ensures.sound in
    let told : (file : Row) → row_at v.rows c.args.id.0 ≡ Some file → c.fork_in-fork.result.now ≡ fork_of c.args.resource file = λ file found. c.fork_in-fork.ensures file (ap (λ (u : VolumeState). row_at u.rows c.args.id.0) is ∙ found) in
    subst (λ (n : ℕ). n ≤ most_fork_bytes) (sym c.len.ensures) (file_few c.forks_are_given_bytes.ensures.few v sound c.args.id.0 c.args.resource c.fork_in-fork.result.now c.requires told)
