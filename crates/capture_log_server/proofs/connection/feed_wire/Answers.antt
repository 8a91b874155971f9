use Rattle.std.proofs.Common.{sym, ap, ◌∙◌}
use Rattle.std.proofs.lemmas.Bool.{not-false}
use Rattle.afp_server.specs.declared.link.tally.Tally.{Tally}
use Rattle.capture_log_server.proofs.Feeding.{at_none, fed_wire}
use Rattle.capture_log_server.proofs.connection.feed_wire.Goals as goal

pub returns-clause-fed : goal.returns-clause-fed
returns-clause-fed g c =
    fed_wire c.args.now c.args.piece.now c.args.wire.now c.args.out.now (g.T.Teller.shown c.args.teller.now) c.feed-end.new.self c.feed-end.new.out (g.T.Teller.shown c.feed-end.new.teller) c.feed-end.result c.is_over.result
    (at_none c.args.wire.now.end _ c.requires.goes_on c.feed-end.ensures.feeds) (sym (ap (λ (x : Tally). x.answered) c.tally.ensures) ∙ not-false c.tally.result.answered c.if-not-tally.false)
    (g.met.T.SoleTeller.sole c.args.teller.now) (g.met.T.SoleTeller.sole c.feed-end.new.teller) c.is_over.ensures
