use Rattle.std.proofs.Common.{◌≡◌, Bool, false, sym, subst, ◌∙◌}
use Rattle.afp_serial.specs.Answered.{told_of}
use Rattle.once_across_breaks_code.specs.run.Things as things
use Rattle.once_across_breaks_live.specs.lemma.Lanes.{IsLane}
use Rattle.once_across_breaks_live.proofs.LaneLemmas.{idles-none, idles-some}
use Rattle.once_across_breaks_live.proofs.lane.Lane.idle.Goals as goal

pub returns-in-None : goal.returns-in-None
returns-in-None g c = λ x is. idles-none c.args.now c.args.self.now x (g.T.Teller.shown c.args.teller.now) is (sym c.link.ensures ∙ c.in-None.is)

pub returns-in-Some : goal.returns-in-Some
returns-in-Some g c = λ x is.
    idles-some c.args.now c.args.self.now c.end_where.new.self x (g.T.Teller.shown c.args.teller.now) (g.T.Teller.shown c.ask-answered.new.self) c.in-Some.link (told_of c.ask-answered.result c.ask-answered.new.out) is (sym c.link.ensures ∙ c.in-Some.is) c.ask-answered.ensures.asked
    (subst (λ (b : Bool). (y : things.Lane) → IsLane c.args.self.now y → y.ended ≡ false → IsLane c.end_where.new.self (record { wire = y.wire; ended = b; up = y.up; down = y.down })) (c.is_displaced.ensures c.ask-answered.new.out) c.end_where.ensures)
