use Rattle.std.proofs.Common.{◌≡◌, ◌≤◌, ◌++◌, ◌-◌}
use Rattle.afp_base.specs.ForkBytes.{taken}
use Rattle.fork_bytes.proofs.Lines.{NoneIn}
use Rattle.fork_bytes.proofs.fork.Fork.read_lines.Given as goal

abbrev pub invariant-loop-at : goal.invariant-loop-at
invariant-loop-at l = record {
  from : l.fn.from ≤ l.at;
  end : l.at ≤ l.fn.end;
  read : l.out ≡ l.initial.out ++ taken l.self l.fn.from (l.at - l.fn.from);
  none : NoneIn l.mask l.character (taken l.self l.fn.from (l.at - l.fn.from));
}

abbrev pub decreases-loop-at : goal.decreases-loop-at
decreases-loop-at l = l.fn.end - l.at
