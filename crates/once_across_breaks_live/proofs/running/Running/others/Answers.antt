use Rattle.std.proofs.Common.{subst}
use Rattle.afp_serial.specs.Answered.{told_of}
use Rattle.afp_serial.specs.Shown.{Asked}
use Rattle.afp_serial.specs.declared.ask.Ask as serial
use Rattle.once_across_breaks_live.proofs.RunningLemmas.{others-come}
use Rattle.once_across_breaks_live.proofs.running.Running.others.Goals as goal

pub returns-clause-comes : goal.returns-clause-comes
returns-clause-comes g c = λ block sure t answered st.
    others-come (record { block = block; answered = sure }) c.args.now c.args.link c.args.ask.now c.args.self.now.end c.args.self.now.lanes.items (g.T.Teller.shown c.args.self.now.teller) (g.T.Teller.shown c.ask.new.self) t (told_of c.ask.result c.ask.new.out) st (g.met.T.Teller.sound c.ask.new.self)
    (subst (λ (a : serial.Ask). Asked (g.T.Teller.shown c.args.self.now.teller) c.args.now c.args.link a (told_of c.ask.result c.ask.new.out) (g.T.Teller.shown c.ask.new.self)) c.in_ok-asked.ensures c.ask.ensures.asked)
