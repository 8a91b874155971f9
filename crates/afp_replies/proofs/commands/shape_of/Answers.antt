use Rattle.afp_replies.specs.Commands.{shape_of, rows}
use Rattle.afp_replies.proofs.commands.shape_of.Goals as goal

pub returns : goal.returns
unfolding shape_of rows
returns c = c.shape_in.ensures
