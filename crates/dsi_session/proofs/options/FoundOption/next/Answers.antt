use Rattle.std.proofs.lemmas.Result.{err_from_is_err_and}
use Rattle.dsi_session.proofs.OptionLemmas.{next_read, none_without_size, none_without_value}
use Rattle.dsi_session.proofs.options.FoundOption.next.Goals as goal

pub returns-in_err-size-clause-err : goal.returns-in_err-size-clause-err
returns-in_err-size-clause-err c =
    let p = err_from_is_err_and c.from_residual-in_err-size.result c.from_residual-in_err-size.ensures.1 in
    rw p.1 (none_without_size _ _ _ _ _ c.in_ok-kind.ensures c.in_err-size.ensures)

pub returns-in_err-value-clause-err : goal.returns-in_err-value-clause-err
returns-in_err-value-clause-err c =
    let p = err_from_is_err_and c.from_residual-in_err-value.result c.from_residual-in_err-value.ensures.1 in
    rw p.1 (none_without_value _ _ _ _ _ _ _ _ c.from.ensures c.in_ok-kind.ensures c.in_ok-size.ensures c.in_err-value.ensures)

pub returns-clause-ok : goal.returns-clause-ok
returns-clause-ok c = next_read _ _ _ c.in_ok-value.value _ _ _ _ c.from.ensures c.in_ok-kind.ensures c.in_ok-size.ensures c.in_ok-value.ensures
