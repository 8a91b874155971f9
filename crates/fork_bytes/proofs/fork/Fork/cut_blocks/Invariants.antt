use Rattle.std.proofs.Common.{◌≤◌, ◌-◌, ◌/◌}
use Rattle.afp_base.specs.ForkBytes.{resized}
use Rattle.fork_bytes.proofs.Plans.{Noted}
use Rattle.fork_bytes.proofs.fork.Fork.cut_blocks.Given as goal

abbrev pub invariant-loop-index : goal.invariant-loop-index
invariant-loop-index l = record {
  noted : Noted l.self (resized l.self l.fn.len) (l.fn.len / 4096) (l.index - l.fn.len / 4096) l.changes.list.items l.changes.added;
  few : l.changes.added ≤ l.index;
}
