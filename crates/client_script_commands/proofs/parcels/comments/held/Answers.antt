use Rattle.std.proofs.Common.{rules}
use Rattle.client_script_commands.proofs.OfParcels.CommentLemmas.{comment_is}
use Rattle.client_script_commands.proofs.parcels.comments.held.Goals as goal

pub returns-clause-is : goal.returns-clause-is
returns-clause-is c = comment_is c.args.text.now c.in_ok-comment.comment (search rules) (search rules)
