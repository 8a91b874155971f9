use Rattle.std.proofs.Common.{◌≤◌, arith}
use Rattle.afp_base.specs.Limits.{most_fork_bytes}
use Rattle.volume_spec.specs.SoundVolume.{fork_bytes}
use Rattle.volume_keeper.proofs.OfReplies.Limits.{used-within}
use Rattle.volume_keeper.proofs.replies.volume.free_bytes.Goals as goal

pub overflow_cast-result : goal.overflow_cast-result
overflow_cast-result c =
    let all : fork_bytes c.args.volume.now.state.rows ≤ most_fork_bytes = used-within c.args.volume.now.state c.keeps_sound.ensures in
    let is = c.used.ensures in
    omega arith

pub overflow_sub-result : goal.overflow_sub-result
overflow_sub-result c =
    let all : fork_bytes c.args.volume.now.state.rows ≤ most_fork_bytes = used-within c.args.volume.now.state c.keeps_sound.ensures in
    let is = c.used.ensures in
    omega arith
