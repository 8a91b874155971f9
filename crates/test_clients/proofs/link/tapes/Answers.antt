use Rattle.std.proofs.Common.{[]}
use Rattle.std.proofs.lemmas.List.Elements.{All-append, All-cons, All-nil}
use Rattle.afp_outside.specs.ends.Tape.{IsFreshTape}
use Rattle.test_clients.proofs.link.tapes.Goals as goal

pub loop-link-preserved : goal.loop-link-preserved
loop-link-preserved c =
    let last = All-cons IsFreshTape c.in_ok-tape.field-0 [] c.in_ok-tape.ensures (All-nil IsFreshTape) in
    rw c.in_ok-push.ensures.items (All-append IsFreshTape c.loop-link.tapes.items _ c.loop-link.invariant last)
