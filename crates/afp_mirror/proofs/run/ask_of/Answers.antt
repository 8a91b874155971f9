use Rattle.std.proofs.Common.{◌≡◌}
use Rattle.afp_mirror_walk.specs.declared.walk.ends.Side.TheVariants.{From, To}
use Rattle.afp_mirror.proofs.RunLemmas.{asks_from, asks_to}
use Rattle.afp_mirror.proofs.run.ask_of.Goals as goal

pub returns-in-From : goal.returns-in-From
returns-in-From g c =
    let is : c.args.asking.now.side ≡ From = cc c.in-From.is in
    asks_from c.args.walk.now c.args.asking.now (g.P.Port.port_state c.args.from.now) (g.Q.Port.port_state c.args.to.now) (g.P.Port.port_state c.ask_port.new.port) c.ask_port.result c.requires.next
    is c.requires.to c.ask_port.ensures

pub returns-in-To : goal.returns-in-To
returns-in-To g c =
    let is : c.args.asking.now.side ≡ To = cc c.in-To.is in
    asks_to c.args.walk.now c.args.asking.now (g.P.Port.port_state c.args.from.now) (g.Q.Port.port_state c.args.to.now) (g.Q.Port.port_state c.ask_port-in-To.new.port) c.ask_port-in-To.result c.requires.next
    is c.requires.from c.ask_port-in-To.ensures
