use Rattle.std.proofs.Common.{◌≡◌, ℕ, ◌+◌, ◌<◌, ◌≤◌, get_or}
use Rattle.dsi_frame.proofs.deframer.move_to_front.Given as goal

abbrev pub invariant-loop-i : goal.invariant-loop-i
invariant-loop-i l =
    ((k : ℕ) → k < l.i → get_or l.buffer k 0 ≡ get_or l.fn.buffer (l.start + k) 0)
    × ((k : ℕ) → l.i ≤ k → get_or l.buffer k 0 ≡ get_or l.fn.buffer k 0)
