use Rattle.std.proofs.Common.{◌≡◌, ◌+◌, length}
use Rattle.capture_log_server.specs.Connections.{difference}
use Rattle.capture_log_server.proofs.difference.first_difference.Given as goal

abbrev pub invariant-loop-want : goal.invariant-loop-want
invariant-loop-want l = record {
  same : difference l.place l.left l.behind ≡ difference l.at l.wanted l.rest;
  total : l.place + length l.left ≡ l.at + length l.wanted;
}

abbrev pub decreases-loop-want : goal.decreases-loop-want
decreases-loop-want l = length l.left
