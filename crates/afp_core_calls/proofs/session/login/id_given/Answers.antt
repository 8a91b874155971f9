use Rattle.std.proofs.Common.{sym}
use Rattle.afp_serial.specs.Login.{is_user}
use Rattle.afp_serial.specs.declared.user.User.{User}
use Rattle.afp_core_calls.proofs.OfSession.UserLemmas.{placed, unplaced}
use Rattle.afp_core_calls.proofs.session.login.id_given.Goals as goal

pub returns-in-Some : goal.returns-in-Some
returns-in-Some c = sym (placed (is_user c.args.given.now) c.args.users.now (λ (user : User). user.id) c.in-Some.place c.index-users-place.result (sym c.in-Some.ensures.place) c.in-Some.ensures.within)

pub returns-in-None : goal.returns-in-None
returns-in-None c = sym (unplaced (is_user c.args.given.now) c.args.users.now (λ (user : User). user.id) (sym c.in-None.ensures.place))
