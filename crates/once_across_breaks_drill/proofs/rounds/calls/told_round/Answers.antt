use Rattle.std.proofs.Common.{refl}
use Rattle.once_across_breaks_drill.specs.rounds.Linked.{waits}
use Rattle.once_across_breaks_drill.specs.rounds.Rounds.{waiting_does}
use Rattle.once_across_breaks_drill.proofs.OfRounds.Calling.{call-asked, is-answered}
use Rattle.once_across_breaks_drill.proofs.OfRounds.OpeningSteps.{came}
use Rattle.once_across_breaks_drill.proofs.rounds.calls.told_round.Goals as goal

pub call_round-requires : goal.call_round-requires
call_round-requires g c = (
  c.args.linked.link,
  c.requires.1,
  c.requires.3,
  waiting_does c.args.linked.caller (waits c.requires.1 c.requires.3),
  call-asked c.args.now c.requires.0 c.requires.1 c.requires.2 c.requires.3 c.args.linked c.args.request.now (g.T.Teller.shown c.args.teller.now) c.requires.4,
)

pub returns : goal.returns
returns g c = λ token id next call awaits.
    let t = g.T.Teller.shown c.args.teller.now in
    let u = g.T.Teller.shown c.call_round.new.teller in
    let l = c.args.linked in
    let r = c.in-Some.round in
    let does = waiting_does l.caller (waits id call) in
    is-answered c.args.now token id next call l c.args.request.now c.new-out.result t r (record { linked = record { caller = r.caller; line = r.line; link = l.link }; answer = c.in_ok-answer-in-Some.answer }) c.call_round.new.out u awaits
    (came c.args.now l.link id call does l.line c.new-out.result t c.in_ok-call_round.field-0 r c.call_round.new.out u c.in-Some.is
    (c.in_ok-call_round.ensures l.link id call does (call-asked c.args.now token id next call l c.args.request.now t awaits)))
    c.in_ok-answer-in-Some.ensures refl refl refl
