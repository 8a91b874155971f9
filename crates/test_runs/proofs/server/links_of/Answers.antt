use Rattle.std.proofs.Common.{[]}
use Rattle.std.proofs.lemmas.List.Elements.{All-append, All-cons, All-nil}
use Rattle.afp_outside.specs.ends.Tape.{IsFreshTape}
use Rattle.test_runs.proofs.server.links_of.Goals as goal

pub loop-one-preserved : goal.loop-one-preserved
loop-one-preserved c =
    let last = All-cons IsFreshTape c.in_ok-link_of.field-0 [] c.in_ok-link_of.ensures (All-nil IsFreshTape) in
    rw c.in_ok-push.ensures.items (All-append IsFreshTape c.loop-one.links.items _ c.loop-one.invariant last)
