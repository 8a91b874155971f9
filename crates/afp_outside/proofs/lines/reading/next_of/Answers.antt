use Rattle.std.proofs.Common.{rules}
use Rattle.afp_outside.proofs.OfLines.NextLemmas.{takes-all, takes-last, takes-some-more}
use Rattle.afp_outside.proofs.lines.reading.next_of.Goals as goal

pub returns-in_default : goal.returns-in_default
returns-in_default g c = takes-some-more _ _ _ _ _ _ c.read.new.room c.in-Got.n c.loop-line.invariant c.in-Got.ensures (search rules)

pub returns-then-taken-turns : goal.returns-then-taken-turns
returns-then-taken-turns g c = takes-all _ _ _ _ _ _ _ c.loop-line.invariant (search rules) (search rules) (search rules) (search rules) c.if-taken-turns.true

pub returns-in-End : goal.returns-in-End
returns-in-End g c = takes-last _ _ _ _ _ _ _ c.cut_line.new.held _ c.last_line-in-End.result c.loop-line.invariant c.in-End.ensures (search rules) (search rules) (search rules) c.last_line-in-End.ensures
