use Rattle.std.proofs.Common.{◌≤◌}
use Rattle.fork_bytes.proofs.Plans.{Noted}
use Rattle.fork_bytes.proofs.fork.Fork.differing.Given as goal

abbrev pub invariant-loop-index : goal.invariant-loop-index
invariant-loop-index l = record {
  noted : Noted l.self l.other 0 l.index l.changes.list.items l.changes.added;
  few : l.changes.added ≤ l.index;
}
