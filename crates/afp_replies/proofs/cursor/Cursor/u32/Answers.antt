use Rattle.afp_replies.proofs.Spellings.{number_took}
use Rattle.afp_replies.proofs.cursor.Cursor.u32.Goals as goal

pub returns : goal.returns
returns c = rw c.read_u32.ensures (number_took 4 _ _ _ c.in_ok-piece.ensures)
