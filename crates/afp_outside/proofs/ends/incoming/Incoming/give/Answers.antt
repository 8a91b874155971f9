use Rattle.afp_outside.proofs.OfEnds.Events.{got_place, got_size}
use Rattle.std.proofs.Common.{ap, ◌∙◌}
use Rattle.afp_outside.specs.ends.Tape.{PastRead, size_of}
use Rattle.afp_outside.proofs.ends.incoming.Incoming.give.Goals as goal

pub invariant_of-self : goal.invariant_of-self
invariant_of-self c = (
  got_place c.self.inside.bytes c.args.n c.self.inside.place c.self.invariant.0 (rw (← c.self.view_is) at c.requires.most),
  ap size_of c.and-self-inside.ensures ∙ got_size c.self.inside.readings.items c.new.result c.args.n c.self.inside.place (ap (λ (it : PastRead). it.gave) c.new.ensures) c.self.invariant.1,
)
