use Rattle.std.proofs.Common.{sym, ap, ◌∙◌, arith, true}
use Rattle.std.specs.Prelude.{Option, Some}
use Rattle.afp_serial.specs.StatusBlock.{status_block}
use Rattle.afp_server.specs.link.Wire.{WireState}
use Rattle.capture_log_server.specs.lemma.Moves.{wire_or}
use Rattle.capture_log_server.specs.States.{ConnectionState}
use Rattle.capture_log_server.proofs.ConnectionLemmas.{Ready, ready, fed_connection}
use Rattle.capture_log_server.proofs.connection.Connection.feed.Goals as goal

pub returns : goal.returns
returns g c = λ s is.
    let block = status_block c.args.house.now in
    let made = c.in_ok-wire.ensures ∙ ap (λ (o : Option WireState). wire_or block o) c.take.ensures.value ∙ ap (λ (x : ConnectionState). wire_or block x.wire) c.self.view_is in
    let r : Ready block c.in_ok-wire.wire c.args.self.now.fed s = ready block c.args.self.now s c.in_ok-wire.wire is c.requires.takes c.requires.there made in
    let v = c.feed_wire.new.wire in
    let same_fed = ap (λ (x : ConnectionState). x.fed) c.self.view_is in
    fed_connection block c.args.now c.args.piece.now c.args.self.now _ s (g.T.Teller.shown c.args.teller.now) (g.T.Teller.shown c.feed_wire.new.teller) c.in_ok-wire.wire v c.tally-tally.result c.self.inside.out c.feed_wire.new.out
    c.in_ok-over.over c.in-Some.fed is r (c.in_ok-over.ensures.fed s.fed s.past r.live.given) c.in_ok-over.ensures.goes_on c.in_ok-over.ensures.block
    (omega (arith, c.in_ok-over.ensures.total, r.live.most, same_fed)) c.tally-tally.ensures (sym (ap (λ (x : ConnectionState). x.out) c.self.view_is))
    (ap (λ (x : ConnectionState). record { wire = Some v; fed = c.in-Some.fed; used = true; over = c.in_ok-over.over; lost = x.lost; out = c.feed_wire.new.out; place = x.place; named = x.named }) c.self.view_is)
