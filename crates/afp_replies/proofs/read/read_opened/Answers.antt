use Rattle.std.proofs.lemmas.Result.{err_from_is_err_and}
use Rattle.afp_replies.proofs.Steps.{goes_on, stops_here, params_found, params_stop}
use Rattle.afp_replies.proofs.read.read_opened.Goals as goal

pub returns-in_err-asked : goal.returns-in_err-asked
returns-in_err-asked c =
    let p = err_from_is_err_and c.from_residual.result c.from_residual.ensures.1 in
    rw (p.1, p.2) (stops_here _ _ _ _ _ c.in_err-asked.ensures)

pub returns-in_err-u16 : goal.returns-in_err-u16
returns-in_err-u16 c =
    let p = err_from_is_err_and c.from_residual-in_err-u16.result c.from_residual-in_err-u16.ensures.1 in
    rw (p.1, p.2) (goes_on _ _ _ _ _ _ c.in_ok-asked.ensures (stops_here _ _ _ _ _ c.in_err-u16.ensures))

pub returns-in_err-values : goal.returns-in_err-values
returns-in_err-values c =
    let p = err_from_is_err_and c.from_residual-in_err-values.result c.from_residual-in_err-values.ensures.1 in
    rw (p.1, p.2) (goes_on _ _ _ _ _ _ c.in_ok-asked.ensures (goes_on _ _ _ _ _ _ c.in_ok-u16.ensures (params_stop _ _ _ _ _ c.in_err-values.ensures)))

pub returns : goal.returns
returns c = goes_on _ _ _ _ _ _ c.in_ok-asked.ensures (goes_on _ _ _ _ _ _ c.in_ok-u16.ensures (params_found _ _ _ _ _ c.in_ok-values.ensures))
