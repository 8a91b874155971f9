use Rattle.std.proofs.Common.{Bool, subst}
use Rattle.capture_made.specs.made.lemma.Adding.{WritesFront}
use Rattle.capture_made.proofs.made.making.make_step.Goals as goal

pub returns-then-write_long : goal.returns-then-write_long
returns-then-write_long g c = record {
  middle = c.add_step.new.text;
  next = c.in-Ok.ensures.after;
  exchanged = c.in-Ok.ensures.exchanged;
  front = subst (λ (b : Bool). WritesFront (g.O.Sink.sink_state c.args.out.now) c.add_step.new.text c.write_long.new.text b (g.O.Sink.sink_state c.write_long.new.out)) c.if-write_long.true c.write_long.ensures;
}

pub returns-else-write_long : goal.returns-else-write_long
returns-else-write_long g c = record {
  middle = c.add_step.new.text;
  exchanged = c.in-Ok.ensures.exchanged;
  front = subst (λ (b : Bool). WritesFront (g.O.Sink.sink_state c.args.out.now) c.add_step.new.text c.write_long.new.text b (g.O.Sink.sink_state c.write_long.new.out)) c.if-write_long.false c.write_long.ensures;
}
