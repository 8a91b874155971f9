use Rattle.afp_client.proofs.OfLinks.NextLemmas.{on-sent}
use Rattle.afp_client.proofs.OfLinks.RoundLemmas.{unsent}
use Rattle.afp_client.proofs.links.round.await_sent.Goals as goal

pub returns-then-flush-clause-comes : goal.returns-then-flush-clause-comes
returns-then-flush-clause-comes g c = λ start all is on.
    c.await_on.ensures.comes start all is (on-sent start all c.args.core.now c.args.out.now (g.L.Link.link_state c.args.link.now) (g.L.Link.link_state c.flush.new.link) c.args.noted.now c.flush.new.noted c.args.cost.now on c.if-flush.ensures.sends c.if-flush.ensures.notes)

pub returns-else-flush-clause-comes : goal.returns-else-flush-clause-comes
returns-else-flush-clause-comes g c = λ start all is on.
    unsent start all c.args.core.now c.args.out.now (g.L.Link.link_state c.args.link.now) (g.L.Link.link_state c.flush.new.link) c.args.noted.now c.flush.new.noted c.args.cost.now on c.if-flush.ensures.sends c.if-flush.ensures.notes
