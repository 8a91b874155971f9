use Rattle.std.proofs.Common.{◌≡◌, ◌++◌, length}
use Rattle.client_files.specs.Names.{server_bytes}
use Rattle.client_files.proofs.names.put_servers.Given as goal

abbrev pub invariant-loop-rest : goal.invariant-loop-rest
invariant-loop-rest l = l.initial.out ++ server_bytes l.name ≡ l.out ++ server_bytes l.rest

abbrev pub decreases-loop-rest : goal.decreases-loop-rest
decreases-loop-rest l = length l.rest
