use Rattle.std.proofs.Common.{◌==◌, ◌∙◌, ap, sym, Some}
use Rattle.afp_serial.specs.declared.user.User.{User}
use Rattle.afp_core_calls.proofs.OfSession.UserLemmas.{placed, unplaced}
use Rattle.afp_core_calls.proofs.session.users.name_in_house.Goals as goal

pub returns-in_ok-copy-in-Some : goal.returns-in_ok-copy-in-Some
returns-in_ok-copy-in-Some c =
    ap Some c.in_ok-copy-in-Some.ensures
    ∙ sym (placed (λ (user : User). user.id == c.args.id) c.args.users.now (λ (user : User). user.name) c.in-Some.place c.index-users-place.result (sym c.in-Some.ensures.place) c.in-Some.ensures.within)

pub returns-in-None : goal.returns-in-None
returns-in-None c = sym (unplaced (λ (user : User). user.id == c.args.id) c.args.users.now (λ (user : User). user.name) (sym c.in-None.ensures.place))
