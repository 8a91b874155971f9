use Rattle.std.proofs.Common.{arith}
use Rattle.afp_outside.proofs.OfEnds.Links.{later}
use Rattle.afp_outside.proofs.ends.tape_listener.TapeListenerListener.accept.Goals as goal

pub invariant_of-self-in-Some : goal.invariant_of-self-in-Some
invariant_of-self-in-Some c =
    let before = c.self.invariant.0 in
    let len = c.in-Some.ensures.len in
    (omega arith, later c.in-Some.link c.pop_front.new.self.items c.self.inside.links.items c.in-Some.ensures.items c.self.invariant.1, c.self.invariant.2, c.self.invariant.3)
