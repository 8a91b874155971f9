use Rattle.std.proofs.Common.{◌≡◌, ◌++◌, length}
use Rattle.client_files.specs.Names.{local_bytes}
use Rattle.client_files.proofs.names.put_locals.Given as goal

abbrev pub invariant-loop-rest : goal.invariant-loop-rest
invariant-loop-rest l = l.initial.out ++ local_bytes l.name ≡ l.out ++ local_bytes l.rest

abbrev pub decreases-loop-rest : goal.decreases-loop-rest
decreases-loop-rest l = length l.rest
