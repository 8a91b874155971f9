use Rattle.std.proofs.lemmas.Result.{err_from_is_err_and}
use Rattle.afp_replies.proofs.Steps.{optional_some, optional_stops, optional_none}
use Rattle.afp_replies.proofs.cursor.Cursor.optional.Goals as goal

pub returns-in_err-u32 : goal.returns-in_err-u32
returns-in_err-u32 c =
    let p = err_from_is_err_and c.from_residual.result c.from_residual.ensures.1 in
    rw (p.1, p.2, c.if-asked.true) (optional_stops _ _ _ c.in_err-u32.ensures)

pub returns-in_ok-u32 : goal.returns-in_ok-u32
returns-in_ok-u32 c = rw c.if-asked.true (optional_some _ _ _ c.in_ok-u32.ensures)

pub returns-else-asked : goal.returns-else-asked
returns-else-asked c = rw c.if-asked.false (optional_none _)
