use Rattle.std.proofs.Common.{◌-◌}
use Rattle.afptool_lib.specs.tool.lemma.Checking.{HasChecked}
use Rattle.afptool_lib.proofs.tool.checking.check_all.Given as goal

abbrev pub invariant-loop-taken : goal.invariant-loop-taken
invariant-loop-taken g l =
    HasChecked l.turns (g.S.Source.source_state l.initial.source) (g.O.Sink.sink_state l.initial.out) l.deframer l.taken (g.S.Source.source_state l.source) (g.O.Sink.sink_state l.out)

abbrev pub decreases-loop-taken : goal.decreases-loop-taken
decreases-loop-taken g l = l.turns - l.taken
