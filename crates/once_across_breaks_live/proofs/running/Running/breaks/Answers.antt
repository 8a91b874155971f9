use Rattle.std.proofs.Common.{refl, rules}
use Rattle.afp_serial.specs.StatusBlock.{status_block}
use Rattle.once_across_breaks_live.proofs.RunningLemmas.{breaks-come}
use Rattle.once_across_breaks_live.proofs.running.Running.breaks.Goals as goal

pub returns-clause-comes : goal.returns-clause-comes
returns-clause-comes g c = λ sure t answered st.
    breaks-come (record { block = status_block c.args.house.now; answered = sure }) c.args.self.now.end (record { client = c.begin.new.client; came = 0; results = c.args.self.now.end.results }) c.args.self.now.lanes.items c.push.new.self.items (g.T.Teller.shown c.args.self.now.teller) t c.broke.new.self c.in_ok-lane.lane st (g.met.T.Teller.sound c.args.self.now.teller) c.broke.ensures c.in_ok-lane.ensures refl refl (search rules)
