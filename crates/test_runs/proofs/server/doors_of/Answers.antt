use Rattle.std.proofs.Common.{◌≡◌, [], false}
use Rattle.std.proofs.lemmas.List.Elements.{All-append, All-cons, All-nil}
use Rattle.test_runs.proofs.server.doors_of.Goals as goal

pub loop-door-preserved : goal.loop-door-preserved
loop-door-preserved c =
    let last = All-cons (λ door. door.closed ≡ false) c.in_ok-door_of.field-0 [] c.in_ok-door_of.ensures (All-nil (λ door. door.closed ≡ false)) in
    rw c.in_ok-push.ensures.items (All-append (λ door. door.closed ≡ false) c.loop-door.made.items _ c.loop-door.invariant last)
