use Rattle.std.proofs.Common.{◌-◌}
use Rattle.afptool_lib.specs.tool.lemma.Parcelling.{HasRead}
use Rattle.afptool_lib.proofs.tool.parcels.read_all.Given as goal

abbrev pub invariant-loop-taken : goal.invariant-loop-taken
invariant-loop-taken g l = HasRead l.turns (g.S.Source.source_state l.initial.source) l.bytes l.taken (g.S.Source.source_state l.source)

abbrev pub decreases-loop-taken : goal.decreases-loop-taken
decreases-loop-taken g l = l.turns - l.taken
