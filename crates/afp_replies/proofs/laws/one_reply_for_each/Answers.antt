use Rattle.afp_replies.proofs.Unique.{one_reply}
use Rattle.afp_replies.proofs.laws.one_reply_for_each.Goals as goal

pub returns : goal.returns
returns c = λ r s kind code bytes are h k. one_reply c.one_block_for_each.ensures _ r s bytes are h k
