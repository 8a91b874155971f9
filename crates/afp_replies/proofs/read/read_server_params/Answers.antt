use Rattle.std.proofs.Common.{◌≡◌, ◌∙◌, rules, w32, to_z, of_z}
use Rattle.std.proofs.lemmas.Int.{to_z-of_z}
use Rattle.std.proofs.lemmas.Result.{err_from_is_err_and}
use Rattle.afp_replies.proofs.Steps.{goes_on, stops_here, end_found, end_stops}
use Rattle.afp_replies.proofs.read.read_server_params.Goals as goal

pub returns-in_err-time : goal.returns-in_err-time
returns-in_err-time c =
    let p = err_from_is_err_and c.from_residual.result c.from_residual.ensures.1 in
    rw (p.1, p.2) (stops_here _ _ _ _ _ c.in_err-time.ensures)

pub returns-in_err-count : goal.returns-in_err-count
returns-in_err-count c =
    let p = err_from_is_err_and c.from_residual-in_err-count.result c.from_residual-in_err-count.ensures.1 in
    rw (p.1, p.2) (goes_on _ _ _ _ _ _ c.in_ok-time.ensures (stops_here _ _ _ _ _ c.in_err-count.ensures))

pub returns-in_err-volumes : goal.returns-in_err-volumes
returns-in_err-volumes c =
    let p = err_from_is_err_and c.from_residual-in_err-volumes.result c.from_residual-in_err-volumes.ensures.1 in
    rw (p.1, p.2) (goes_on _ _ _ _ _ _ c.in_ok-time.ensures (goes_on _ _ _ _ _ _ c.in_ok-count.ensures (c.in_err-volumes.ensures _)))

pub returns-in_err-done : goal.returns-in_err-done
returns-in_err-done c =
    let p = err_from_is_err_and c.from_residual-in_err-done.result c.from_residual-in_err-done.ensures.1 in
    rw (p.1, p.2) (goes_on _ _ _ _ _ _ c.in_ok-time.ensures (goes_on _ _ _ _ _ _ c.in_ok-count.ensures (c.in_ok-volumes.ensures _ _ (end_stops _ _ _ c.in_err-done.ensures))))

pub returns : goal.returns
returns c =
    let time : to_z w32 (of_z w32 c.cast_signed.result) ≡ c.cast_signed.result = to_z-of_z w32 c.cast_signed.result (search rules) in
    rw (time ∙ c.cast_signed.ensures)
    (goes_on _ _ _ _ _ _ c.in_ok-time.ensures (goes_on _ _ _ _ _ _ c.in_ok-count.ensures (c.in_ok-volumes.ensures _ _ (end_found _ _ c.in_ok-done.ensures))))
