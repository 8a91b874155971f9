use Rattle.std.proofs.Common.{◌≡◌, ◌++◌, map, vec_capacity}
use Rattle.afpd_lib.proofs.server.server.take_doors.Given as goal

abbrev pub invariant-loop-one : goal.invariant-loop-one
invariant-loop-one g l = record {
  doors : l.doors.items ≡ l.initial.doors.items ++ map (λ one. one.door) l.yielded;
  room : vec_capacity l.doors ≡ vec_capacity l.initial.doors;
}
