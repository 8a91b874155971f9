use Rattle.std.proofs.Common.{◌∙◌, ap}
use Rattle.volume_tree.proofs.Keeping.{reserved-kept, reserved-state}
use Rattle.volume_tree.specs.Shown.{TreeValue}
use Rattle.volume_tree.proofs.volume.Volume.reserve.Goals as goal

pub invariant_of-self-2 : goal.invariant_of-self-2
invariant_of-self-2 c = reserved-kept c.next_of-next.result c.next_of-next.ensures c.in_ok-reserve.ensures.rows c.in_ok-reserve.ensures.next c.keep.ensures.shown c.keep.ensures.others c.self.invariant

pub returns-clause-state : goal.returns-clause-state
returns-clause-state c =
    reserved-state c.self.inside.name c.self.inside.dates c.self.inside.rows c.reserve.new.self c.self.inside.forks c.keep.new.forks c.in_ok-reserve.ensures.rows c.in_ok-reserve.ensures.next c.keep.ensures.shown
    ∙ ap (λ (v : TreeValue). v.state) c.self.view_is
