use Rattle.std.proofs.Common.{◌∙◌, sym}
use Rattle.afp_replies.proofs.Spellings.{asked_takes, not_outside}
use Rattle.afp_replies.proofs.cursor.Cursor.asked.Goals as goal

pub returns-else-is_outside : goal.returns-else-is_outside
returns-else-is_outside c = asked_takes _ _ _ _ _ (not_outside _ _ (sym c.is_outside.ensures ∙ c.if-is_outside.false)) c.exactly.ensures
