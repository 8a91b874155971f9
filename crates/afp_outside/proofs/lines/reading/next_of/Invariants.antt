use Rattle.std.proofs.Common.{◌-◌}
use Rattle.afp_outside.specs.lines.lemma.Reading.{HasRead}
use Rattle.afp_outside.proofs.lines.reading.next_of.Given as goal

abbrev pub invariant-loop-line : goal.invariant-loop-line
invariant-loop-line g l =
    HasRead l.turns (record { bytes = l.initial.held; ended = l.initial.ended; taken = l.initial.taken }) (g.S.Source.source_state l.initial.source)
    (record { bytes = l.held; ended = l.ended; taken = l.taken }) (g.S.Source.source_state l.source)

abbrev pub decreases-loop-line : goal.decreases-loop-line
decreases-loop-line g l = l.turns - l.taken
