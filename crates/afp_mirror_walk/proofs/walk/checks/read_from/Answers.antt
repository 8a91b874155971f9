use Rattle.std.proofs.Common.{rules, ◌≡◌}
use Rattle.afp_mirror_walk.proofs.Steps.{from_ends}
use Rattle.afp_mirror_walk.proofs.walk.checks.read_from.Goals as goal

pub returns-in-Err : goal.returns-in-Err
returns-in-Err c = from_ends c.args.walk c.args.checking c.args.heard.now.code c.args.heard.now.reply c.source_at-node.result c.in-Err.end (search rules) c.in-Err.ensures
