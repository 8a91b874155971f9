use Rattle.std.proofs.lemmas.Result.{err_from_is_err_and}
use Rattle.afp_replies.proofs.Steps.{goes_on, stops_here, end_found, end_stops}
use Rattle.afp_replies.proofs.read.read_start_ext.Goals as goal

pub returns-in_err-start : goal.returns-in_err-start
returns-in_err-start c =
    let p = err_from_is_err_and c.from_residual.result c.from_residual.ensures.1 in
    rw (p.1, p.2) (stops_here _ _ _ _ _ c.in_err-start.ensures)

pub returns-in_err-done : goal.returns-in_err-done
returns-in_err-done c =
    let p = err_from_is_err_and c.from_residual-in_err-done.result c.from_residual-in_err-done.ensures.1 in
    rw (p.1, p.2) (goes_on _ _ _ _ _ _ c.in_ok-start.ensures (end_stops _ _ _ c.in_err-done.ensures))

pub returns : goal.returns
returns c = goes_on _ _ _ _ _ _ c.in_ok-start.ensures (end_found _ _ c.in_ok-done.ensures)
