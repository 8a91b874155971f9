use Rattle.std.proofs.Common.{List, ℕ, None}
use Rattle.std.specs.Prelude.{map}
use Rattle.once_across_breaks_drill.specs.rounds.Linked.{IsLinked, as_told}
use Rattle.once_across_breaks_drill.specs.run.lemma.Going.{HasLeft}
use Rattle.once_across_breaks_drill.proofs.run.stepping.run_steps.Given as goal

abbrev pub invariant-loop-left : goal.invariant-loop-left
invariant-loop-left g l = (token : List ℕ) → IsLinked token None 4 l.initial.going.linked → HasLeft token l.number l.steps l.initial.going.linked (map as_told l.initial.going.results.items) (g.T.Teller.shown l.initial.teller) l.left l.drawn l.going (g.T.Teller.shown l.teller)

abbrev pub decreases-loop-left : goal.decreases-loop-left
decreases-loop-left g l = l.left
