use Rattle.std.proofs.Common.{◌≡◌, ◌++◌, drop, map}
use Rattle.afp_serial.specs.Limits.{first_user_id}
use Rattle.afpd_lib.specs.words.lemma.Values.{user_value}
use Rattle.afpd_lib.specs.server.AskedHouse.{users_from}
use Rattle.afpd_lib.proofs.server.house.users_of.Given as goal

abbrev pub invariant-loop-user : goal.invariant-loop-user
invariant-loop-user l = users_from first_user_id (map user_value l.users) ≡ l.made.items ++ users_from l.id (map user_value (drop l.user-index l.users))
