use Rattle.std.proofs.lemmas.Result.{err_from_is_err_and}
use Rattle.afp_replies.proofs.Steps.{goes_on, stops_here, end_found, end_stops}
use Rattle.afp_replies.proofs.read.read_icon_info.Goals as goal

pub returns-in_err-tag : goal.returns-in_err-tag
returns-in_err-tag c =
    let p = err_from_is_err_and c.from_residual.result c.from_residual.ensures.1 in
    rw (p.1, p.2) (stops_here _ _ _ _ _ c.in_err-tag.ensures)

pub returns-in_err-kind : goal.returns-in_err-kind
returns-in_err-kind c =
    let p = err_from_is_err_and c.from_residual-in_err-kind.result c.from_residual-in_err-kind.ensures.1 in
    rw (p.1, p.2) (goes_on _ _ _ _ _ _ c.in_ok-tag.ensures (stops_here _ _ _ _ _ c.in_err-kind.ensures))

pub returns-in_err-icon_kind : goal.returns-in_err-icon_kind
returns-in_err-icon_kind c =
    let p = err_from_is_err_and c.from_residual-in_err-icon_kind.result c.from_residual-in_err-icon_kind.ensures.1 in
    rw (p.1, p.2) (goes_on _ _ _ _ _ _ c.in_ok-tag.ensures (goes_on _ _ _ _ _ _ c.in_ok-kind.ensures (stops_here _ _ _ _ _ c.in_err-icon_kind.ensures)))

pub returns-in_err-pad : goal.returns-in_err-pad
returns-in_err-pad c =
    let p = err_from_is_err_and c.from_residual-in_err-pad.result c.from_residual-in_err-pad.ensures.1 in
    rw (p.1, p.2) (goes_on _ _ _ _ _ _ c.in_ok-tag.ensures (goes_on _ _ _ _ _ _ c.in_ok-kind.ensures (goes_on _ _ _ _ _ _ c.in_ok-icon_kind.ensures (stops_here _ _ _ _ _ c.in_err-pad.ensures))))

pub returns-in_err-size : goal.returns-in_err-size
returns-in_err-size c =
    let p = err_from_is_err_and c.from_residual-in_err-size.result c.from_residual-in_err-size.ensures.1 in
    rw (p.1, p.2) (goes_on _ _ _ _ _ _ c.in_ok-tag.ensures (goes_on _ _ _ _ _ _ c.in_ok-kind.ensures (goes_on _ _ _ _ _ _ c.in_ok-icon_kind.ensures (goes_on _ _ _ _ _ _ c.in_ok-pad.ensures (stops_here _ _ _ _ _ c.in_err-size.ensures)))))

pub returns-in_err-done : goal.returns-in_err-done
returns-in_err-done c =
    let p = err_from_is_err_and c.from_residual-in_err-done.result c.from_residual-in_err-done.ensures.1 in
    rw (p.1, p.2) (goes_on _ _ _ _ _ _ c.in_ok-tag.ensures (goes_on _ _ _ _ _ _ c.in_ok-kind.ensures (goes_on _ _ _ _ _ _ c.in_ok-icon_kind.ensures (goes_on _ _ _ _ _ _ c.in_ok-pad.ensures (goes_on _ _ _ _ _ _ c.in_ok-size.ensures (end_stops _ _ _ c.in_err-done.ensures))))))

pub returns : goal.returns
returns c = goes_on _ _ _ _ _ _ c.in_ok-tag.ensures (goes_on _ _ _ _ _ _ c.in_ok-kind.ensures (goes_on _ _ _ _ _ _ c.in_ok-icon_kind.ensures (goes_on _ _ _ _ _ _ c.in_ok-pad.ensures (goes_on _ _ _ _ _ _ c.in_ok-size.ensures (end_found _ _ c.in_ok-done.ensures)))))
