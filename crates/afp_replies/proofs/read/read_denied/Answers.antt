use Rattle.std.proofs.lemmas.Result.{err_from_is_err_and}
use Rattle.afp_replies.proofs.Steps.{goes_on, stops_here, params_found, params_stop}
use Rattle.afp_replies.proofs.read.read_denied.Goals as goal

pub returns-in_err-asked : goal.returns-in_err-asked
returns-in_err-asked c =
    let p = err_from_is_err_and c.from_residual.result c.from_residual.ensures.1 in
    rw (p.1, p.2) (stops_here _ _ _ _ _ c.in_err-asked.ensures)

pub returns-in_err-exactly : goal.returns-in_err-exactly
returns-in_err-exactly c =
    let p = err_from_is_err_and c.from_residual-in_err-exactly.result c.from_residual-in_err-exactly.ensures.1 in
    rw (p.1, p.2) (goes_on _ _ _ _ _ _ c.in_ok-asked.ensures (stops_here _ _ _ _ _ c.in_err-exactly.ensures))

pub returns-in_err-values : goal.returns-in_err-values
returns-in_err-values c =
    let p = err_from_is_err_and c.from_residual-in_err-values.result c.from_residual-in_err-values.ensures.1 in
    rw (p.1, p.2) (goes_on _ _ _ _ _ _ c.in_ok-asked.ensures (goes_on _ _ _ _ _ _ c.in_ok-exactly.ensures (params_stop _ _ _ _ _ c.in_err-values.ensures)))

pub returns : goal.returns
returns c = goes_on _ _ _ _ _ _ c.in_ok-asked.ensures (goes_on _ _ _ _ _ _ c.in_ok-exactly.ensures (params_found _ _ _ _ _ c.in_ok-values.ensures))
