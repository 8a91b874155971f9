use Rattle.afp_serial.specs.StatusBlock.{status_block}
use Rattle.once_across_breaks_live.proofs.RunningLemmas.{begins-lane}
use Rattle.once_across_breaks_live.proofs.running.begin.Goals as goal

pub returns : goal.returns
returns c = record { client = c.in_ok-start.ensures.state; begun_is = begins-lane (status_block c.args.house.now) c.in_ok-wire.wire c.new-up.result c.start.new.out c.new-down.result c.in_ok-wire.ensures c.new-up.ensures c.in_ok-start.ensures.frame c.new-down.ensures }
