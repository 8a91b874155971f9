use Rattle.std.proofs.Common.{refl}
use Rattle.afp_client.proofs.OfLinks.RoundLemmas.{round-receives, round-quiet, round-ends, round-fails}
use Rattle.afp_client.proofs.links.round.read_round.Goals as goal

pub returns-in-Got-clause-comes : goal.returns-in-Got-clause-comes
returns-in-Got-clause-comes g c = λ start turns all less on.
    round-receives start all c.args.core.now c.read_more.new.core (g.L.Link.link_state c.args.link.now) (g.L.Link.link_state c.read_more.new.link) c.in-Got.n c.args.noted.now c.args.cost.now less c.requires.unfinished on c.in-Got.ensures.reads

pub returns-in-Quiet-clause-comes : goal.returns-in-Quiet-clause-comes
returns-in-Quiet-clause-comes g c = λ start turns all less on.
    let reads = c.in-Quiet.ensures.reads in
    round-quiet start turns all c.args.core.now c.read_more.new.core (g.L.Link.link_state c.args.link.now) (g.L.Link.link_state c.read_more.new.link) (g.L.Link.link_state c.idle.new.link) c.args.noted.now c.idle.new.noted c.args.cost.now _ c.idle.result
    less c.requires.unfinished on reads.0 reads.1 refl (λ here. c.idle.ensures.comes start turns _ all c.read_more.new.core _ here)

pub returns-in-End-clause-comes : goal.returns-in-End-clause-comes
returns-in-End-clause-comes g c = λ start turns all less on.
    let reads = c.in-End.ensures.reads in
    round-ends start all c.args.core.now c.read_more.new.core (g.L.Link.link_state c.args.link.now) (g.L.Link.link_state c.read_more.new.link) c.args.noted.now c.args.cost.now less c.requires.unfinished on reads.0 reads.1

pub returns-in-Failed-clause-comes : goal.returns-in-Failed-clause-comes
returns-in-Failed-clause-comes g c = λ start turns all less on.
    let reads = c.in-Failed.ensures.reads in
    round-fails start all c.args.core.now c.read_more.new.core (g.L.Link.link_state c.args.link.now) (g.L.Link.link_state c.read_more.new.link) c.args.noted.now c.args.cost.now less c.requires.unfinished on reads.0 reads.1
