use Rattle.std.proofs.Common.{◌≤◌, ◌-◌, ◌/◌}
use Rattle.afp_base.specs.ForkBytes.{splice}
use Rattle.fork_bytes.proofs.Plans.{Noted}
use Rattle.fork_bytes.proofs.fork.Fork.written.Given as goal

abbrev pub invariant-loop-index : goal.invariant-loop-index
invariant-loop-index l = record {
  noted : Noted l.self (splice l.self l.fn.from l.piece) (l.fn.from / 4096) (l.index - l.fn.from / 4096) l.changes.list.items l.changes.added;
  few : l.changes.added ≤ l.index;
}
