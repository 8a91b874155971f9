use Rattle.std.proofs.Common.{sym, ap, ◌∙◌, true}
use Rattle.std.specs.Prelude.{Option}
use Rattle.afp_server.specs.link.Wire.{WireState}
use Rattle.once_across_breaks_live.proofs.LaneLemmas.{loses-none, loses-some}
use Rattle.once_across_breaks_live.proofs.lane.Lane.lose.Goals as goal

pub returns-in-None : goal.returns-in-None
returns-in-None g c = λ x is. loses-none true c.args.now c.args.self.now _ x (g.T.Teller.shown c.args.teller.now) is (sym c.take.ensures.value ∙ c.in-None.is)
    (ap (λ (o : Option WireState). record { wire = o; fed = c.args.self.now.fed; up = c.args.self.now.up; down = c.args.self.now.down }) c.take.ensures.after)

pub returns-in-Some : goal.returns-in-Some
returns-in-Some g c = λ x is.
    loses-some c.lose_wire.result c.args.now c.args.self.now _ x (g.T.Teller.shown c.args.teller.now) (g.T.Teller.shown c.lose_wire.new.teller) c.in-Some.wire is (sym c.take.ensures.value ∙ c.in-Some.is)
    (ap (λ (o : Option WireState). record { wire = o; fed = c.args.self.now.fed; up = c.args.self.now.up; down = c.args.self.now.down }) c.take.ensures.after) c.lose_wire.ensures
