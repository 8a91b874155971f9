use Rattle.std.proofs.Common.{[], sym, subst}
use Rattle.afp_server.specs.connection.lemma.Kept.{Keeps}
use Rattle.afp_server.specs.declared.connection.standing.Standing.{Standing}
use Rattle.afp_server.specs.declared.connection.standing.Standing.TheVariants as stands
use Rattle.afp_server.specs.declared.link.serve.LinkEnd.TheVariants as links
use Rattle.afp_server.proofs.OfConnection.Reading.{keeps-given-up}
use Rattle.afp_server.proofs.connection.connection.unheld.Goals as goal

pub returns-in-Sends : goal.returns-in-Sends
returns-in-Sends g c = λ held some.
    subst (λ (s : Standing). Keeps held s (g.L.ReadyLink.link_state c.args.link.now) [] (stands.Over links.WriteFault) (g.L.ReadyLink.link_state c.give_up.new.self)) (sym c.in-Sends.is)
    (keeps-given-up held _ _ _ (g.L.ReadyLink.link_state c.args.link.now) (g.L.ReadyLink.link_state c.give_up.new.self) c.give_up.ensures)
