use Rattle.std.proofs.Common.{sym}
use Rattle.std.specs.Prelude.{bytes_eq}
use Rattle.afp_serial.specs.declared.user.User.{User}
use Rattle.afp_core_calls.proofs.OfSession.UserLemmas.{placed, unplaced}
use Rattle.afp_core_calls.proofs.session.users.id_in_house.Goals as goal

pub returns-in-Some : goal.returns-in-Some
returns-in-Some c = sym (placed (λ (user : User). bytes_eq user.name c.args.name.now) c.args.users.now (λ (user : User). user.id) c.in-Some.place c.index-users-place.result (sym c.in-Some.ensures.place) c.in-Some.ensures.within)

pub returns-in-None : goal.returns-in-None
returns-in-None c = sym (unplaced (λ (user : User). bytes_eq user.name c.args.name.now) c.args.users.now (λ (user : User). user.id) (sym c.in-None.ensures.place))
