use Rattle.std.proofs.Common.{arith, rules, ap, refl, Some}
use Rattle.afp_client.proofs.OfLinks.GoingLemmas.{opening-then, opens-after, opens-read, lives-came, kept-live, kept-opening}
use Rattle.afp_client.proofs.OfLinks.RoundLemmas.{afford-still, goes-after, came-after}
use Rattle.afp_client.proofs.links.round.await_on.Goals as goal

pub returns-in-Some-clause-comes : goal.returns-in-Some-clause-comes
returns-in-Some-clause-comes g c = λ start all is on.
    let here = c.loop-came.invariant.goes start all is on in
    came-after start c.args.turns all here.now c.in-Some.came _ _ _ _ here.same (c.in-Some.ensures.comes start c.args.turns here.now _ here.on)

pub returns-then-cost-turns-clause-comes : goal.returns-then-cost-turns-clause-comes
returns-then-cost-turns-clause-comes g c = λ start all is on.
    let here = c.loop-came.invariant.goes start all is on in record {
      goes_on = goes-after start all here.now _ _ _ _ here.same (c.in_default.ensures.comes start c.args.turns here.now _ here.on);
      unfinished = c.in_default.ensures.unfinished refl;
      reached = c.if-cost-turns.true;
    }

pub returns-in-Some-read_round-clause-comes : goal.returns-in-Some-read_round-clause-comes
returns-in-Some-read_round-clause-comes g c = λ start all is on.
    let here = c.loop-came.invariant.goes start all is on in
    let taken = c.in_default.ensures.comes start c.args.turns here.now _ here.on in
    came-after start c.args.turns all here.now c.in-Some-read_round.came _ _ _ _ here.same
    (came-after start c.args.turns here.now taken.now c.in-Some-read_round.came _ _ _ _ taken.same (c.in-Some-read_round.ensures.comes start c.args.turns taken.now (afford-still start c.args.turns c.loop-came.cost all here.now taken.now is here.same taken.same (search rules)) taken.on))

pub loop-came-preserved : goal.loop-came-preserved
loop-came-preserved g c = record {
  empty = c.in_default-read_round.ensures.empty;
  fits = c.in_default-read_round.ensures.fits;
  live = kept-live _ _ c.in_default-read_round.ensures.state c.in_default.ensures.lives;
  opening = λ is. kept-opening c.args.core.now.state _ _ (opening-then c.args.core.now.state c.loop-came.core.state _ (c.loop-came.invariant.opening is) (c.in_default.ensures.opens is)) c.in_default-read_round.ensures.state;
  rises = omega (arith, c.loop-came.invariant.rises, c.in_default-read_round.ensures.rises);
  goes = λ start all is on.
      let here = c.loop-came.invariant.goes start all is on in
      let taken = c.in_default.ensures.comes start c.args.turns here.now _ here.on in
      goes-after start all here.now _ _ _ _ here.same
      (goes-after start here.now taken.now _ _ _ _ taken.same (c.in_default-read_round.ensures.comes start c.args.turns taken.now (afford-still start c.args.turns c.loop-came.cost all here.now taken.now is here.same taken.same (search rules)) taken.on));
}

pub returns-in-Some-clause-opens : goal.returns-in-Some-clause-opens
returns-in-Some-clause-opens g c = λ is. opens-after c.args.core.now.state c.loop-came.core.state _ c.in-Some.came (c.loop-came.invariant.opening is) (c.in-Some.ensures.opens is)

pub returns-in-Some-read_round-clause-lives : goal.returns-in-Some-read_round-clause-lives
returns-in-Some-read_round-clause-lives g c = lives-came c.in-Some-read_round.came _ (kept-live _ _ c.in-Some-read_round.ensures.state c.in_default.ensures.lives)

pub returns-in-Some-read_round-clause-opens : goal.returns-in-Some-read_round-clause-opens
returns-in-Some-read_round-clause-opens g c = λ is.
    let o = kept-opening c.args.core.now.state _ _ (opening-then c.args.core.now.state c.loop-came.core.state _ (c.loop-came.invariant.opening is) (c.in_default.ensures.opens is)) c.in-Some-read_round.ensures.state in
    opens-read c.args.core.now.state _ c.in-Some-read_round.came (λ e. c.in-Some-read_round.ensures.opened (ap Some e)) (λ at code block e. c.in-Some-read_round.ensures.told at code block (ap Some e)) o.waits
