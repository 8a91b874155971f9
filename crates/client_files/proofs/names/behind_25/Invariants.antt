use Rattle.std.proofs.Common.{◌≡◌, length}
use Rattle.client_files.specs.Names.{behind_25}
use Rattle.client_files.proofs.names.behind_25.Given as goal

abbrev pub invariant-loop-rest : goal.invariant-loop-rest
invariant-loop-rest l = behind_25 l.bytes ≡ behind_25 l.rest

abbrev pub decreases-loop-rest : goal.decreases-loop-rest
decreases-loop-rest l = length l.rest
