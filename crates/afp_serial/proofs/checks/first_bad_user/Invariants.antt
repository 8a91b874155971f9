use Rattle.std.proofs.Common.{◌≡◌}
use Rattle.afp_serial.specs.HouseFault.{is_bad_user, first_bad_name}
use Rattle.afp_serial.proofs.FirstBad.{first_bad_from}
use Rattle.afp_serial.proofs.checks.first_bad_user.Given as goal

abbrev pub invariant-loop-index : goal.invariant-loop-index
invariant-loop-index l = first_bad_name is_bad_user l.users ≡ first_bad_from is_bad_user l.users l.index
