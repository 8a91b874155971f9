use Rattle.std.proofs.lemmas.Result.{err_from_is_err_and}
use Rattle.afp_replies.proofs.Steps.{entry_read, entry_stops, entries_read, no_memory}
use Rattle.afp_replies.proofs.read.read_entries.Goals as goal

pub returns-in_err-entry : goal.returns-in_err-entry
returns-in_err-entry c =
    let p = err_from_is_err_and c.from_residual.result c.from_residual.ensures.1 in
    rw (p.1, p.2) (λ next. c.loop-i.invariant next _ (entry_stops _ _ _ _ _ _ _ _ _ c.loop-i-test.true c.in_err-entry.ensures next))

pub returns-in_err-push : goal.returns-in_err-push
returns-in_err-push c =
    let p = err_from_is_err_and c.from_residual-in_err-push.result c.from_residual-in_err-push.ensures.1 in
    rw (p.1, p.2) (λ next. no_memory _ _)

pub loop-i-preserved : goal.loop-i-preserved
loop-i-preserved c = λ next res h.
    c.loop-i.invariant next res (entry_read _ _ _ _ _ _ _ _ _ c.loop-i-test.true c.in_ok-entry.ensures next res (rw (← c.in_ok-push.ensures.ok) h))

pub returns : goal.returns
returns c = λ next res h. c.loop-i.invariant next res (entries_read _ _ _ _ _ _ _ c.loop-i-test.false next res h)
