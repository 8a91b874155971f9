use Rattle.std.specs.Prelude.{All}
use Rattle.afp_outside.specs.ends.Tape.{IsFreshTape}
use Rattle.test_clients.proofs.link.tapes.Given as goal

abbrev pub invariant-loop-link : goal.invariant-loop-link
invariant-loop-link l = All IsFreshTape l.tapes.items
