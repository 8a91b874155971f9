use Rattle.std.specs.Prelude.{◌≡◌, ◌+◌, All, length}
use Rattle.afpd.specs.Doors.{unused_door}
use Rattle.afpd.proofs.doors.doors_at.Given as goal

abbrev pub invariant-loop : goal.invariant-loop
invariant-loop l = record {
  unused : All (λ door. door ≡ unused_door l.links) l.doors.items;
  many : length l.doors.items + 1 ≡ l.counter;
}
