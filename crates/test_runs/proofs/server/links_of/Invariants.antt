use Rattle.std.specs.Prelude.{All}
use Rattle.afp_outside.specs.ends.Tape.{IsFreshTape}
use Rattle.test_runs.proofs.server.links_of.Given as goal

abbrev pub invariant-loop-one : goal.invariant-loop-one
invariant-loop-one l = All IsFreshTape l.links.items
