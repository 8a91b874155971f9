use Rattle.std.proofs.lemmas.Result.{err_from_is_err_and}
use Rattle.afp_replies.proofs.Steps.{goes_on, stops_here, end_found, end_stops}
use Rattle.afp_replies.proofs.read.read_list.Goals as goal

pub returns-in_err-asked : goal.returns-in_err-asked
returns-in_err-asked c =
    let p = err_from_is_err_and c.from_residual.result c.from_residual.ensures.1 in
    rw (p.1, p.2) (stops_here _ _ _ _ _ c.in_err-asked.ensures)

pub returns-in_err-asked-2 : goal.returns-in_err-asked-2
returns-in_err-asked-2 c =
    let p = err_from_is_err_and c.from_residual-in_err-asked-2.result c.from_residual-in_err-asked-2.ensures.1 in
    rw (p.1, p.2) (goes_on _ _ _ _ _ _ c.in_ok-asked.ensures (stops_here _ _ _ _ _ c.in_err-asked-2.ensures))

pub returns-in_err-count : goal.returns-in_err-count
returns-in_err-count c =
    let p = err_from_is_err_and c.from_residual-in_err-count.result c.from_residual-in_err-count.ensures.1 in
    rw (p.1, p.2) (goes_on _ _ _ _ _ _ c.in_ok-asked.ensures (goes_on _ _ _ _ _ _ c.in_ok-asked-2.ensures (stops_here _ _ _ _ _ c.in_err-count.ensures)))

pub returns-in_err-rows : goal.returns-in_err-rows
returns-in_err-rows c =
    let p = err_from_is_err_and c.from_residual-in_err-rows.result c.from_residual-in_err-rows.ensures.1 in
    rw (p.1, p.2) (goes_on _ _ _ _ _ _ c.in_ok-asked.ensures (goes_on _ _ _ _ _ _ c.in_ok-asked-2.ensures (goes_on _ _ _ _ _ _ c.in_ok-count.ensures (c.in_err-rows.ensures _))))

pub returns-in_err-done : goal.returns-in_err-done
returns-in_err-done c =
    let p = err_from_is_err_and c.from_residual-in_err-done.result c.from_residual-in_err-done.ensures.1 in
    rw (p.1, p.2) (goes_on _ _ _ _ _ _ c.in_ok-asked.ensures (goes_on _ _ _ _ _ _ c.in_ok-asked-2.ensures (goes_on _ _ _ _ _ _ c.in_ok-count.ensures (c.in_ok-rows.ensures _ _ (end_stops _ _ _ c.in_err-done.ensures)))))

pub returns : goal.returns
returns c = goes_on _ _ _ _ _ _ c.in_ok-asked.ensures (goes_on _ _ _ _ _ _ c.in_ok-asked-2.ensures (goes_on _ _ _ _ _ _ c.in_ok-count.ensures (c.in_ok-rows.ensures _ _ (end_found _ _ c.in_ok-done.ensures))))
