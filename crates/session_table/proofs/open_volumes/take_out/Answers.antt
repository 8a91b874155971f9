use Rattle.std.proofs.Common.{◌-◌, sym, arith}
use Rattle.session_table.proofs.VolumeLemmas.{close-id, close-below, close-behind}
use Rattle.session_table.proofs.open_volumes.take_out.Goals as goal

pub returns-then-id-eq0 : goal.returns-then-id-eq0
returns-then-id-eq0 c = sym (close-below 1 c.args.id c.args.flags.now (omega arith))

pub returns-then-id-flags : goal.returns-then-id-flags
returns-then-id-flags c = sym (close-behind 1 c.args.id c.args.flags.now (omega arith))

pub returns : goal.returns
returns c = close-id 1 c.args.id (c.args.id - 1) c.args.flags.now (omega arith)
