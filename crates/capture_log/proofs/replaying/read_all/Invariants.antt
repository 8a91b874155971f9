use Rattle.std.proofs.Common.{◌-◌}
use Rattle.capture_log.proofs.SoFar.{HasRead}
use Rattle.capture_log.proofs.replaying.read_all.Given as goal

abbrev pub invariant-loop-taken : goal.invariant-loop-taken
invariant-loop-taken g l = HasRead l.turns (g.S.Source.source_state l.initial.source) l.reader l.taken (g.S.Source.source_state l.source)

abbrev pub decreases-loop-taken : goal.decreases-loop-taken
decreases-loop-taken g l = l.turns - l.taken
