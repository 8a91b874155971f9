use Rattle.std.proofs.Common.{drop, Bool}
use Rattle.afp_serial.specs.StatusBlock.{status_block}
use Rattle.once_across_breaks_code.specs.run.Things.{begun_things}
use Rattle.once_across_breaks_live.specs.lemma.Running.{IsSure}
use Rattle.once_across_breaks_live.proofs.RunningLemmas.{HasCome}
use Rattle.once_across_breaks_live.proofs.whole_run.run_all.Given as goal

abbrev pub invariant-loop-event : goal.invariant-loop-event
invariant-loop-event g l =
    (sure : Bool) → IsSure sure l.running.answered
    → HasCome (record { block = status_block l.fn.house; answered = sure }) l.fn.events (drop l.event-index l.fn.events) (begun_things (status_block l.fn.house) l.fn.login (g.T.Teller.shown l.fn.teller)) l.running.end l.running.lanes.items (g.T.Teller.shown l.running.teller)
