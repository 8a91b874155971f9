use Rattle.std.proofs.Common.{◌≡◌, true, false, ◌+◌, ◌≤◌, ◌-◌, List, [], length}
use Rattle.afp_client.specs.session.State.{is_lost}
use Rattle.afp_client.specs.links.History.{Happening, allowed, limits_in}
use Rattle.afp_client.specs.links.OnLink.{Start, LiveOn, spot}
use Rattle.afp_client.specs.links.Coming.{GoesOn}
use Rattle.afp_client.specs.links.lemma.Coming.{Opening}
use Rattle.afp_client.proofs.links.round.await_on.Given as goal

abbrev pub invariant-loop-came : goal.invariant-loop-came
invariant-loop-came g l = record {
  empty : l.out ≡ [];
  live : is_lost l.core.state.stage ≡ false;
  opening : l.opening ≡ true → Opening l.initial.core.state l.core.state;
  fits : l.core.held.place + length l.core.held.rest ≤ l.cost;
  rises : l.initial.cost ≤ l.cost;
  goes : (start : Start) (all : List Happening) → l.turns ≡ allowed (limits_in start.limits all) → LiveOn start all (spot l.initial.core [] (g.L.Link.link_state l.initial.link) l.initial.noted l.initial.cost)
      → GoesOn start all l.core (g.L.Link.link_state l.link) l.noted l.cost;
}

abbrev pub decreases-loop-came : goal.decreases-loop-came
decreases-loop-came g l = l.turns - l.cost
