use Rattle.afp_replies.proofs.Showing.{what_is_shown, can_write}
use Rattle.afp_replies.proofs.write.write_reply.Goals as goal

pub put_reply-requires : goal.put_reply-requires
put_reply-requires c = can_write _ (what_is_shown _ c.requires)
