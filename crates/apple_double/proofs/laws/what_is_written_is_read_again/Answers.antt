use Rattle.std.proofs.Common.{rules}
use Rattle.apple_double.proofs.laws.what_is_written_is_read_again.Goals as goal
use Rattle.apple_double.proofs.BothWays.{read-again}

pub returns : goal.returns
returns c = read-again c.args.shape c.args.p.now c.requires.comment c.requires.size c.name_is_good.ensures c.finder_is_whole.ensures (search rules) (search rules) (search rules)
