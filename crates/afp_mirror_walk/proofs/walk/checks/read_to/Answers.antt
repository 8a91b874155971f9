use Rattle.std.proofs.Common.{rules, ◌≡◌}
use Rattle.afp_mirror_walk.proofs.Steps.{to_ends}
use Rattle.afp_mirror_walk.proofs.walk.checks.read_to.Goals as goal

pub returns-in-Err : goal.returns-in-Err
returns-in-Err c = to_ends c.args.walk c.args.checking c.args.last c.args.heard.now.code c.args.heard.now.reply c.target_at-node.result c.in-Err.end (search rules) c.in-Err.ensures
