use Rattle.afp_replies.proofs.Spellings.{number_took}
use Rattle.afp_replies.proofs.cursor.Cursor.u16.Goals as goal

pub returns : goal.returns
returns c = rw c.read_u16.ensures (number_took 2 _ _ _ c.in_ok-piece.ensures)
