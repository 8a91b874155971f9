use Rattle.std.proofs.Common.{◌≡◌, take, drop}
use Rattle.volume_spec.specs.Walk.{walk_from}
use Rattle.volume_tree.proofs.volume.Volume.walk_steps.Given as goal

-- from here the steps that are left lead where all lead from the start
abbrev pub invariant-loop-i : goal.invariant-loop-i
invariant-loop-i l =
    walk_from l.self.state.rows l.user l.path.kind l.missing (take l.count l.path.steps) l.fn.dir.0
    ≡ walk_from l.self.state.rows l.user l.path.kind l.missing (drop l.i (take l.count l.path.steps)) l.here.0
