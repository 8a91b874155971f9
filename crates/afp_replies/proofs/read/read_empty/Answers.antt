use Rattle.std.proofs.lemmas.Result.{err_from_is_err_and}
use Rattle.afp_replies.proofs.Steps.{end_found, end_stops}
use Rattle.afp_replies.proofs.read.read_empty.Goals as goal

pub returns-in_err-done : goal.returns-in_err-done
returns-in_err-done c =
    let p = err_from_is_err_and c.from_residual.result c.from_residual.ensures.1 in
    rw (p.1, p.2) (end_stops _ _ _ c.in_err-done.ensures)

pub returns : goal.returns
returns c = end_found _ _ c.in_ok-done.ensures
