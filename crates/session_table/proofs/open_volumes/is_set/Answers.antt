use Rattle.std.proofs.Common.{◌-◌, sym, arith}
use Rattle.session_table.proofs.VolumeLemmas.{has-id, none-below, none-behind}
use Rattle.session_table.proofs.open_volumes.is_set.Goals as goal

pub returns-then-id-eq0 : goal.returns-then-id-eq0
returns-then-id-eq0 c = sym (none-below 1 c.args.id c.args.flags.now (omega arith))

pub returns-then-id-flags : goal.returns-then-id-flags
returns-then-id-flags c = sym (none-behind 1 c.args.id c.args.flags.now (omega arith))

pub returns : goal.returns
returns c = sym (has-id 1 c.args.id (c.args.id - 1) c.args.flags.now (omega arith))
