use Rattle.std.proofs.lemmas.Result.{err_from_is_err_and}
use Rattle.afp_replies.proofs.Steps.{text_some, text_stops, text_none}
use Rattle.afp_replies.proofs.cursor.Cursor.optional_text.Goals as goal

pub returns-in_err-text : goal.returns-in_err-text
returns-in_err-text c =
    let p = err_from_is_err_and c.from_residual.result c.from_residual.ensures.1 in
    rw (p.1, p.2, c.if-asked.true) (text_stops _ _ _ _ c.in_err-text.ensures)

pub returns-in_ok-text : goal.returns-in_ok-text
returns-in_ok-text c = rw c.if-asked.true (text_some _ _ _ _ c.in_ok-text.ensures)

pub returns-else-asked : goal.returns-else-asked
returns-else-asked c = rw c.if-asked.false (text_none _ _)
