use Rattle.std.proofs.Common.{refl, rules}
use Rattle.afp_serial.specs.StatusBlock.{status_block}
use Rattle.once_across_breaks_live.proofs.RunningLemmas.{first-stands}
use Rattle.once_across_breaks_live.proofs.running.Running.new.Goals as goal

pub returns : goal.returns
returns g c =
    first-stands (status_block c.args.house.now) c.args.login (g.T.Teller.shown c.args.teller) c.in_ok-client.client (record { client = c.begin.new.client; came = 0; results = c.new-results.result }) c.in_ok-lane.lane _ c.in_ok-client.ensures c.in_ok-lane.ensures refl (search rules) (search rules)
