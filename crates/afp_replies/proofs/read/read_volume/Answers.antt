use Rattle.std.proofs.lemmas.Result.{err_from_is_err_and}
use Rattle.afp_replies.proofs.Steps.{goes_on, stops_here}
use Rattle.afp_replies.proofs.read.read_volume.Goals as goal

pub returns-in_err-flags : goal.returns-in_err-flags
returns-in_err-flags c =
    let p = err_from_is_err_and c.from_residual.result c.from_residual.ensures.1 in
    rw (p.1, p.2) (λ next. stops_here _ _ _ _ _ c.in_err-flags.ensures)

pub returns-in_err-name : goal.returns-in_err-name
returns-in_err-name c =
    let p = err_from_is_err_and c.from_residual-in_err-name.result c.from_residual-in_err-name.ensures.1 in
    rw (p.1, p.2) (λ next. goes_on _ _ _ _ _ _ c.in_ok-flags.ensures (stops_here _ _ _ _ _ c.in_err-name.ensures))

pub returns : goal.returns
returns c = λ next res h. goes_on _ _ _ _ _ _ c.in_ok-flags.ensures (goes_on _ _ _ _ _ _ c.in_ok-name.ensures h)
