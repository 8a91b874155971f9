use Rattle.std.proofs.Common.{ap, ◌∙◌}
use Rattle.afp_outside.specs.ends.Tape.{PastRead, size_of}
use Rattle.afp_outside.proofs.OfEnds.Events.{quiet_size}
use Rattle.afp_outside.proofs.ends.incoming.Incoming.give_nothing.Goals as goal

pub invariant_of-self : goal.invariant_of-self
invariant_of-self c = (c.self.invariant.0, ap size_of c.and-self-inside.ensures ∙ quiet_size c.self.inside.readings.items c.new.result c.self.inside.place (ap (λ (it : PastRead). it.gave) c.new.ensures) c.self.invariant.1)
