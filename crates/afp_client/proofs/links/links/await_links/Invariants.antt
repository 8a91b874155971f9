use Rattle.std.proofs.Common.{◌≡◌, true, false, ◌+◌, ◌<◌, ◌≤◌, ◌-◌, List, length}
use Rattle.afp_outside.specs.ends.Dialer.{DialerState}
use Rattle.afp_client.specs.links.History.{Happening, allowed}
use Rattle.afp_client.specs.links.OnLink.{Start, spot}
use Rattle.afp_client.specs.links.Links.{Part, Over, SameOver, all_limits}
use Rattle.afp_client.specs.session.State.{is_lost}
use Rattle.afp_client.specs.links.lemma.Coming.{Opening}
use Rattle.afp_client.proofs.links.links.await_links.Given as goal

abbrev pub invariant-loop-link : goal.invariant-loop-link
invariant-loop-link g l = record {
  below : l.idle < 8;
  live : is_lost l.core.state.stage ≡ false;
  opening : l.opening ≡ true → Opening l.initial.core.state l.core.state;
  fits : l.core.held.place + length l.core.held.rest ≤ l.cost;
  over : (first : Start) (old : DialerState g.row.D-Link.Denot) (past : List (Part g.row.D-Link.Denot)) (all : List Happening) → l.turns ≡ allowed (all_limits first.limits past all)
      → Over g.D.Link.Link.link_state first old past all (spot l.initial.core l.initial.out (g.D.Link.Link.link_state l.initial.link) l.initial.noted l.initial.cost) l.initial.idle (g.D.Dialer.dialer_state l.initial.dialer)
      → (later : List (Part g.row.D-Link.Denot)) × (now : List Happening) × SameOver past all later now
      × Over g.D.Link.Link.link_state first old later now (spot l.core l.out (g.D.Link.Link.link_state l.link) l.noted l.cost) l.idle (g.D.Dialer.dialer_state l.dialer);
}

abbrev pub decreases-loop-link : goal.decreases-loop-link
decreases-loop-link g l = l.turns - l.cost
