use Rattle.std.proofs.Common.{sym, ◌∙◌, arith}
use Rattle.afp_server.proofs.OfConnection.Reading.{keeps-all, none_left}
use Rattle.afp_server.proofs.connection.connection.keep.Goals as goal

pub returns-then-rest-eq0 : goal.returns-then-rest-eq0
returns-then-rest-eq0 g c = record {
  keeps = keeps-all c.args.deframer.now c.args.standing (g.L.ReadyLink.link_state c.args.link.now) c.new.result
      (c.new.ensures ∙ sym (none_left c.args.deframer.now.rest (omega (arith, c.if-rest-eq0.true, c.rest.ensures.rest)))) (omega (arith, c.rest.ensures.rest, c.rest.ensures.fits));
}

pub returns-in-Ok : goal.returns-in-Ok
returns-in-Ok g c = record {
  keeps = keeps-all c.args.deframer.now c.args.standing (g.L.ReadyLink.link_state c.args.link.now) c.in-Ok.rest (c.in-Ok.ensures ∙ c.held_bytes.ensures.bytes) c.held_bytes.ensures.fits;
}
