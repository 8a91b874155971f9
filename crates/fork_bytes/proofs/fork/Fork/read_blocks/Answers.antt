use Rattle.std.proofs.Common.{arith}
use Rattle.fork_bytes.proofs.Writes.{read_on}
use Rattle.fork_bytes.proofs.fork.Fork.read_blocks.Goals as goal

pub loop-at-preserved : goal.loop-at-preserved
loop-at-preserved c = record {
  from = omega (arith, c.loop-at.invariant.from, c.next_block.ensures, c.min-stop.ensures, c.loop-at-test.true);
  end = omega (arith, c.min-stop.ensures);
  read = read_on c.args.self.now c.args.out.now c.loop-at.out c.read_in_block.new.out c.args.from c.loop-at.at c.min-stop.result c.loop-at.invariant.from
      (omega (arith, c.next_block.ensures, c.min-stop.ensures, c.loop-at-test.true)) c.loop-at.invariant.read c.in_ok-read_in_block.ensures.ok;
}
