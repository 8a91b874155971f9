use Rattle.std.proofs.lemmas.Result.{err_from_is_err_and}
use Rattle.afp_replies.proofs.Steps.{volume_read, volume_stops, volumes_read, no_memory}
use Rattle.afp_replies.proofs.read.read_volumes.Goals as goal

pub returns-in_err-volume : goal.returns-in_err-volume
returns-in_err-volume c =
    let p = err_from_is_err_and c.from_residual.result c.from_residual.ensures.1 in
    rw (p.1, p.2) (λ next. c.loop-i.invariant next _ (volume_stops _ _ _ _ _ c.loop-i-test.true c.in_err-volume.ensures next))

pub returns-in_err-push : goal.returns-in_err-push
returns-in_err-push c =
    let p = err_from_is_err_and c.from_residual-in_err-push.result c.from_residual-in_err-push.ensures.1 in
    rw (p.1, p.2) (λ next. no_memory _ _)

pub loop-i-preserved : goal.loop-i-preserved
loop-i-preserved c = λ next res h. c.loop-i.invariant next res (volume_read _ _ _ _ _ _ c.loop-i-test.true c.in_ok-volume.ensures next res (rw (← c.in_ok-push.ensures.ok) h))

pub returns : goal.returns
returns c = λ next res h. c.loop-i.invariant next res (volumes_read _ _ _ _ c.loop-i-test.false next res h)
