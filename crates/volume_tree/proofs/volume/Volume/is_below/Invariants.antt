use Rattle.std.proofs.Common.{◌≡◌, ◌-◌, length}
use Rattle.volume_spec.specs.Edits.{is_below}
use Rattle.volume_tree.proofs.volume.Volume.is_below.Given as goal

-- the answer is that from here, in the steps that are left
abbrev pub invariant-loop-step : goal.invariant-loop-step
invariant-loop-step l = is_below l.self.state.rows (length l.self.state.rows) l.node.0 l.fn.id.0 ≡ is_below l.self.state.rows (length l.self.state.rows - l._step) l.node.0 l.here.0
