use Rattle.std.proofs.Common.{rules, ◌≡◌}
use Rattle.afp_mirror_walk.proofs.Steps.{piece_ends}
use Rattle.afp_mirror_walk.proofs.walk.copies.read_piece.Goals as goal

pub returns-in-Err : goal.returns-in-Err
returns-in-Err c = piece_ends c.args.walk c.args.copying c.args.heard.now.code c.args.heard.now.reply c.first_id-node.result c.in-Err.end (search rules) c.in-Err.ensures
