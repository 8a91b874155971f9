use Rattle.std.proofs.Common.{◌≡◌, ◌++◌, map, vec_capacity}
use Rattle.afp_desk.specs.desk.Passes.{IsOf, view}
use Rattle.afp_desk.specs.workers.Gathers.{Gathered, pass_view, done_of}
use Rattle.afp_desk.proofs.workers.gather.gather.Given as goal

abbrev pub invariant-loop-worker : goal.invariant-loop-worker
invariant-loop-worker g l = record {
  desk : IsOf l.desk l.first;
  met : Gathered (view l.initial.first) (map pass_view l.yielded) (view l.first);
  done : l.done.items ≡ l.initial.done.items ++ map done_of l.yielded;
  room : vec_capacity l.done ≡ vec_capacity l.initial.done;
}
