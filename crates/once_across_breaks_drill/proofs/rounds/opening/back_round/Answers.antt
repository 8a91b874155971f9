use Rattle.std.proofs.Common.{refl}
use Rattle.afp_client.specs.declared.session.stage.OpeningStep.TheVariants as steps
use Rattle.once_across_breaks_drill.specs.rounds.Rounds.{opening_does}
use Rattle.once_across_breaks_drill.proofs.OfRounds.OpeningSteps.{back, back-asked, came, is-back}
use Rattle.once_across_breaks_drill.proofs.rounds.opening.back_round.Goals as goal

pub call_round-requires : goal.call_round-requires
call_round-requires g c = (
  c.args.linked.link,
  2,
  back c.requires.0,
  opening_does c.args.linked.caller steps.Session 2 0,
  back-asked c.args.now c.requires.0 c.args.linked c.args.request.now (g.T.Teller.shown c.args.teller.now) c.requires.1,
)

pub returns-in_ok-is_ready-in-Some : goal.returns-in_ok-is_ready-in-Some
returns-in_ok-is_ready-in-Some g c = λ token awaits.
    let t = g.T.Teller.shown c.args.teller.now in
    let u = g.T.Teller.shown c.call_round.new.teller in
    let l = c.args.linked in
    let does = opening_does l.caller steps.Session 2 0 in
    let r = c.in-Some.round in
    is-back c.args.now token l (record { caller = r.caller; line = r.line; link = l.link }) c.args.out.now t r c.call_round.new.out u awaits.has
    (came c.args.now l.link 2 (back token) does l.line c.args.out.now t c.in_ok-call_round.field-0 r c.call_round.new.out u c.in-Some.is (c.in_ok-call_round.ensures l.link 2 (back token) does (back-asked c.args.now token l c.args.request.now t awaits)))
    c.in_ok-is_ready-in-Some.ensures refl refl refl
