use Rattle.std.proofs.lemmas.Result.{err_from_is_err_and}
use Rattle.afp_replies.proofs.Steps.{no_memory, remaining_found}
use Rattle.afp_replies.proofs.read.read_status.Goals as goal

pub returns-in_err-block : goal.returns-in_err-block
returns-in_err-block c =
    let p = err_from_is_err_and c.from_residual.result c.from_residual.ensures.1 in
    rw (p.1, p.2) (no_memory _ _)

pub returns : goal.returns
returns c = remaining_found _ _ _ c.in_ok-block.ensures
