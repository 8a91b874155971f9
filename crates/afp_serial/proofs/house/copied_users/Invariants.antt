use Rattle.std.proofs.Common.{◌≡◌, take}
use Rattle.afp_serial.proofs.house.copied_users.Given as goal

abbrev pub invariant-loop-user : goal.invariant-loop-user
invariant-loop-user l = l.copy.items ≡ take l.user-index l.users
