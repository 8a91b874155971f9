use Rattle.std.proofs.lemmas.Result.{err_from_is_err_and}
use Rattle.afp_replies.specs.Layouts.{node_params_layout}
use Rattle.afp_replies.proofs.Steps.{params_found, params_stop}
use Rattle.afp_replies.proofs.read.read_node_params.Goals as goal

pub returns-in_err-values : goal.returns-in_err-values
unfolding node_params_layout
returns-in_err-values c =
    let p = err_from_is_err_and c.from_residual.result c.from_residual.ensures.1 in
    rw (p.1, p.2, c.if-dir.true) (params_stop _ _ _ _ _ c.in_err-values.ensures)

pub returns-in_err-values-2 : goal.returns-in_err-values-2
unfolding node_params_layout
returns-in_err-values-2 c =
    let p = err_from_is_err_and c.from_residual-in_err-values-2.result c.from_residual-in_err-values-2.ensures.1 in
    rw (p.1, p.2, c.if-dir.false) (params_stop _ _ _ _ _ c.in_err-values-2.ensures)

pub returns-in_ok-values : goal.returns-in_ok-values
unfolding node_params_layout
returns-in_ok-values c = rw c.if-dir.true (params_found _ _ _ _ _ c.in_ok-values.ensures)

pub returns-in_ok-values-2 : goal.returns-in_ok-values-2
unfolding node_params_layout
returns-in_ok-values-2 c = rw c.if-dir.false (params_found _ _ _ _ _ c.in_ok-values-2.ensures)
