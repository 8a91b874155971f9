use Rattle.std.proofs.Common.{◌≤◌, ◌-◌, length}
use Rattle.capture_log_server.specs.Running.{AreUnused}
use Rattle.capture_log_server.proofs.running.no_connections.Given as goal

abbrev pub invariant-loop-alloc : goal.invariant-loop-alloc
invariant-loop-alloc l = record {
  most : length l.connections.items ≤ 1000;
  unused : AreUnused l.connections.items;
}

abbrev pub decreases-loop-alloc : goal.decreases-loop-alloc
decreases-loop-alloc l = 1000 - length l.connections.items
