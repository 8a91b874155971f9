use Rattle.std.proofs.Common.{refl, sym, ap, subst}
use Rattle.std.specs.Prelude.{Option, Some, None, IfNone}
use Rattle.afp_server.specs.link.lemma.SessionState.{SessionState}
use Rattle.afp_server.specs.link.Wire.{FeedStart, FedSoFar}
use Rattle.afp_server.specs.link.Wire.{feed_point}
use Rattle.afp_server.proofs.OfLink.WireLemmas.{fed-none}
use Rattle.afp_server.proofs.link.wire.Wire.feed.Goals as goal

if_none : {X : Type 0} (o : Option X) (P : Type 0) → P → IfNone o P
if_none None P p = p
if_none (Some x) P p = tt

pub returns-clause-feeds : goal.returns-clause-feeds
returns-clause-feeds g c =
    rw (← c.self.view_is) (if_none c.self.inside.end _ (λ bytes past given.
    let start : FeedStart = record {
      block = c.self.inside.session.block;
      now = c.args.now;
      bytes = bytes;
      past = past;
      stage = c.self.inside.session.stage;
      out = c.args.out.now;
      shown = g.T.Teller.shown c.args.teller.now;
    } in
    c.feed_piece-end.ensures.feeds start (sym (ap (λ (s : SessionState). s.block) c.begin_tally.ensures)) refl
    (subst (λ (s : SessionState). FedSoFar start start.bytes c.self.inside.deframer (feed_point s.stage s.tally c.args.out.now (g.T.Teller.shown c.args.teller.now))) (sym c.begin_tally.ensures)
    (fed-none start c.self.inside.deframer given))))
