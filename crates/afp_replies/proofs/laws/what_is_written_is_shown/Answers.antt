use Rattle.afp_replies.specs.Commands.{shape_of}
use Rattle.afp_replies.specs.Replies.{layout_for}
use Rattle.afp_replies.proofs.Again.{good_reply}
use Rattle.afp_replies.proofs.laws.what_is_written_is_shown.Goals as goal

pub returns : goal.returns
unfolding layout_for
returns c = λ r kind code bytes h. (good_reply (shape_of kind.command) code kind r bytes h).again
