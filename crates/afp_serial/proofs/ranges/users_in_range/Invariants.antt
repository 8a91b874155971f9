use Rattle.std.proofs.Common.{◌≡◌, take, true}
use Rattle.std.specs.List.{list_all}
use Rattle.afp_serial.specs.Ranges.{is_typed_user}
use Rattle.afp_serial.proofs.ranges.users_in_range.Given as goal

abbrev pub invariant-loop-user : goal.invariant-loop-user
invariant-loop-user l = list_all is_typed_user (take l.user-index l.users) ≡ true
