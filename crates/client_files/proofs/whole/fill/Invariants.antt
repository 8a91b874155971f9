use Rattle.std.proofs.Common.{◌≡◌, ◌≤◌, ◌-◌, length, take}
use Rattle.client_files.specs.Sources.{Gives}
use Rattle.client_files.proofs.whole.fill.Given as goal

abbrev pub invariant-loop-got : goal.invariant-loop-got
invariant-loop-got g l =
    (l.got ≤ length l.room) × (length l.room ≡ length l.initial.room) × Gives (g.S.Source.source_state l.initial.source) (take l.got l.room) (g.S.Source.source_state l.source)

abbrev pub decreases-loop-got : goal.decreases-loop-got
decreases-loop-got g l = length l.room - l.got
