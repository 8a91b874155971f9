use Rattle.afp_replies.proofs.Spellings.{raw_took}
use Rattle.afp_replies.proofs.cursor.Cursor.raw4.Goals as goal

pub returns : goal.returns
returns c = rw c.copy_from_slice.ensures.after (raw_took 4 _ _ _ c.in_ok-piece.ensures)
