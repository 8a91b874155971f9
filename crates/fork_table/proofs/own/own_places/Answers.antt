use Rattle.fork_table.proofs.Owning.{is_part}
use Rattle.fork_table.proofs.own.own_places.Goals as goal

pub returns : goal.returns
returns c = is_part c.args.s.0 c.args.own.now c.before-2.result c.behind.result c.before-2.ensures c.behind.ensures
