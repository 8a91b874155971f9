use Rattle.std.proofs.lemmas.Result.{err_from_is_err_and}
use Rattle.afp_replies.proofs.Steps.{goes_on, stops_here}
use Rattle.afp_replies.proofs.read.read_file_dir_params.Goals as goal

pub returns-in_err-asked : goal.returns-in_err-asked
returns-in_err-asked c =
    let p = err_from_is_err_and c.from_residual.result c.from_residual.ensures.1 in
    rw (p.1, p.2) (stops_here _ _ _ _ _ c.in_err-asked.ensures)

pub returns-in_err-asked-2 : goal.returns-in_err-asked-2
returns-in_err-asked-2 c =
    let p = err_from_is_err_and c.from_residual-in_err-asked-2.result c.from_residual-in_err-asked-2.ensures.1 in
    rw (p.1, p.2) (goes_on _ _ _ _ _ _ c.in_ok-asked.ensures (stops_here _ _ _ _ _ c.in_err-asked-2.ensures))

pub returns-in_err-dir : goal.returns-in_err-dir
returns-in_err-dir c =
    let p = err_from_is_err_and c.from_residual-in_err-dir.result c.from_residual-in_err-dir.ensures.1 in
    rw (p.1, p.2) (goes_on _ _ _ _ _ _ c.in_ok-asked.ensures (goes_on _ _ _ _ _ _ c.in_ok-asked-2.ensures (stops_here _ _ _ _ _ c.in_err-dir.ensures)))

pub returns-in_err-pad : goal.returns-in_err-pad
returns-in_err-pad c =
    let p = err_from_is_err_and c.from_residual-in_err-pad.result c.from_residual-in_err-pad.ensures.1 in
    rw (p.1, p.2) (goes_on _ _ _ _ _ _ c.in_ok-asked.ensures (goes_on _ _ _ _ _ _ c.in_ok-asked-2.ensures (goes_on _ _ _ _ _ _ c.in_ok-dir.ensures (stops_here _ _ _ _ _ c.in_err-pad.ensures))))

pub returns : goal.returns
returns c = goes_on _ _ _ _ _ _ c.in_ok-asked.ensures (goes_on _ _ _ _ _ _ c.in_ok-asked-2.ensures (goes_on _ _ _ _ _ _ c.in_ok-dir.ensures (goes_on _ _ _ _ _ _ c.in_ok-pad.ensures (c.read_node_params.ensures))))
