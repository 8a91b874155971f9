use Rattle.std.proofs.Common.{refl}
use Rattle.afp_client.specs.declared.session.stage.OpeningStep.TheVariants as steps
use Rattle.once_across_breaks.specs.same.Steps.{login}
use Rattle.once_across_breaks_drill.specs.rounds.Rounds.{opening_does}
use Rattle.once_across_breaks_drill.proofs.OfRounds.OpeningSteps.{came, is-logged-in, login-asked}
use Rattle.once_across_breaks_drill.proofs.rounds.opening.login_round.Goals as goal

pub call_round-requires : goal.call_round-requires
call_round-requires g c =
    (c.args.linked.link, 1, login, opening_does c.args.linked.caller steps.Login 1 0, login-asked c.args.now c.args.linked c.args.request.now (g.T.Teller.shown c.args.teller.now) c.requires)

pub returns-in_ok-goes_on-in-Some : goal.returns-in_ok-goes_on-in-Some
returns-in_ok-goes_on-in-Some g c =
    let t = g.T.Teller.shown c.args.teller.now in
    let u = g.T.Teller.shown c.call_round.new.teller in
    let l = c.args.linked in
    let does = opening_does l.caller steps.Login 1 0 in
    let r = c.in-Some.round in
    is-logged-in c.args.now l (record { caller = r.caller; line = r.line; link = l.link }) c.args.out.now t r c.call_round.new.out u
    (came c.args.now l.link 1 login does l.line c.args.out.now t c.in_ok-call_round.field-0 r c.call_round.new.out u c.in-Some.is (c.in_ok-call_round.ensures l.link 1 login does (login-asked c.args.now l c.args.request.now t c.requires)))
    c.in_ok-goes_on-in-Some.ensures refl refl refl
