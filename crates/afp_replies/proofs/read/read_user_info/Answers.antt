use Rattle.std.proofs.lemmas.Result.{err_from_is_err_and}
use Rattle.afp_replies.proofs.Steps.{goes_on, stops_here, end_found, end_stops}
use Rattle.afp_replies.proofs.read.read_user_info.Goals as goal

pub returns-in_err-asked : goal.returns-in_err-asked
returns-in_err-asked c =
    let p = err_from_is_err_and c.from_residual.result c.from_residual.ensures.1 in
    rw (p.1, p.2) (stops_here _ _ _ _ _ c.in_err-asked.ensures)

pub returns-in_err-id : goal.returns-in_err-id
returns-in_err-id c =
    let p = err_from_is_err_and c.from_residual-in_err-id.result c.from_residual-in_err-id.ensures.1 in
    rw (p.1, p.2) (goes_on _ _ _ _ _ _ c.in_ok-asked.ensures (rw (← c.is_asked.ensures) (c.in_err-id.ensures _)))

pub returns-in_err-group : goal.returns-in_err-group
returns-in_err-group c =
    let p = err_from_is_err_and c.from_residual-in_err-group.result c.from_residual-in_err-group.ensures.1 in
    rw (p.1, p.2) (goes_on _ _ _ _ _ _ c.in_ok-asked.ensures (rw (← c.is_asked.ensures) (c.in_ok-id.ensures _ _ (rw (← c.is_asked-2.ensures) (c.in_err-group.ensures _)))))

pub returns-in_err-done : goal.returns-in_err-done
returns-in_err-done c =
    let p = err_from_is_err_and c.from_residual-in_err-done.result c.from_residual-in_err-done.ensures.1 in
    rw (p.1, p.2) (goes_on _ _ _ _ _ _ c.in_ok-asked.ensures (rw (← c.is_asked.ensures) (c.in_ok-id.ensures _ _ (rw (← c.is_asked-2.ensures) (c.in_ok-group.ensures _ _ (end_stops _ _ _ c.in_err-done.ensures))))))

pub returns : goal.returns
returns c = goes_on _ _ _ _ _ _ c.in_ok-asked.ensures (rw (← c.is_asked.ensures) (c.in_ok-id.ensures _ _ (rw (← c.is_asked-2.ensures) (c.in_ok-group.ensures _ _ (end_found _ _ c.in_ok-done.ensures)))))
