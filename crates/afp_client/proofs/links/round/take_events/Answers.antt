use Rattle.std.proofs.Common.{◌∙◌}
use Rattle.afp_client.proofs.OfLinks.GoingLemmas.{opening-then, opens-after}
use Rattle.afp_client.proofs.OfLinks.RoundLemmas.{goes-after, came-after}
use Rattle.afp_client.proofs.links.round.take_events.Goals as goal

pub loop-came-preserved : goal.loop-came-preserved
loop-came-preserved g c = record {
  empty = c.in-Goes.ensures.empty;
  live = c.in-Goes.ensures.lives;
  opening = λ is. opening-then c.args.core.now.state c.loop-came.core.state _ (c.loop-came.invariant.opening is) (c.in-Goes.ensures.opens is);
  fits = c.in-Goes.ensures.fits ∙ c.loop-came.invariant.fits;
  goes = λ start all cost on.
      let here = c.loop-came.invariant.goes start all cost on in
      goes-after start all here.now _ _ _ cost here.same (c.in-Goes.ensures.next start 0 here.now cost here.on);
}

pub returns-in-Reads-clause-comes : goal.returns-in-Reads-clause-comes
returns-in-Reads-clause-comes g c = λ start turns all cost on.
    let here = c.loop-came.invariant.goes start all cost on in
    goes-after start all here.now _ _ _ cost here.same (c.in-Reads.ensures.next start turns here.now cost here.on)

pub returns-in-Comes-clause-comes : goal.returns-in-Comes-clause-comes
returns-in-Comes-clause-comes g c = λ start turns all cost on.
    let here = c.loop-came.invariant.goes start all cost on in
    came-after start turns all here.now c.in-Comes.came _ _ _ cost here.same (c.in-Comes.ensures.next start turns here.now cost here.on)

pub returns-in-Reads-clause-opens : goal.returns-in-Reads-clause-opens
returns-in-Reads-clause-opens g c = λ is. opening-then c.args.core.now.state c.loop-came.core.state _ (c.loop-came.invariant.opening is) (c.in-Reads.ensures.opens is)

pub returns-in-Comes-clause-opens : goal.returns-in-Comes-clause-opens
returns-in-Comes-clause-opens g c = λ is. opens-after c.args.core.now.state c.loop-came.core.state _ c.in-Comes.came (c.loop-came.invariant.opening is) (c.in-Comes.ensures.opens is)
