use Rattle.std.proofs.Common.{◌≡◌, ◌<◌, ◌≤◌, map, length, vec_capacity, ℕ}
use Rattle.std.specs.Prelude.{slice_index_or}
use Rattle.afp_desk.specs.desk.Passes.{IsOf, view}
use Rattle.afp_desk.specs.workers.Gathers.{pass_view}
use Rattle.afp_desk.specs.workers.Staffs.{Staffed, door_of, least}
use Rattle.afp_desk.proofs.workers.staff.staff.Given as goal

abbrev pub invariant-loop-door : goal.invariant-loop-door
invariant-loop-door g l = record {
  desk : IsOf l.desk l.first;
  each : (i : ℕ) (d : _) → i < length l.workers.items → IsOf l.desk (slice_index_or l.workers.items i d).pass;
  staffed : Staffed (view l.initial.first) (view l.first) (map pass_view l.workers.items);
  doors : map door_of l.workers.items ≡ l.yielded;
  count : length l.workers.items ≡ length l.yielded;
  enough : least (length l.yielded) ≤ (view l.first).share;
  room : vec_capacity l.workers ≡ vec_capacity l.initial.workers;
}
