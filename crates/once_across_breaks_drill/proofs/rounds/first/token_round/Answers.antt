use Rattle.std.proofs.Common.{refl}
use Rattle.once_across_breaks.specs.same.Steps.{asks_token}
use Rattle.once_across_breaks_drill.proofs.OfRounds.Linking.{has-token, token-asked, with_token}
use Rattle.once_across_breaks_drill.proofs.OfRounds.OpeningSteps.{came}
use Rattle.once_across_breaks_drill.proofs.rounds.first.token_round.Goals as goal

pub call_round-requires : goal.call_round-requires
call_round-requires g c = (
  c.args.linked.link,
  2,
  asks_token,
  λ code block. with_token c.args.linked.caller c.requires.0,
  token-asked c.args.now c.requires.0 c.args.linked c.args.request.now (g.T.Teller.shown c.args.teller.now) c.requires.1,
)

pub returns : goal.returns
returns g c = λ token awaits.
    let t = g.T.Teller.shown c.args.teller.now in
    let u = g.T.Teller.shown c.call_round.new.teller in
    let l = c.args.linked in
    let r = c.in-Some.round in
    has-token c.args.now token l (record { caller = r.caller; line = r.line; link = l.link }) c.args.request.now c.new-out.result t r c.call_round.new.out u awaits
    (came c.args.now l.link 2 asks_token (λ code block. with_token l.caller token) l.line c.new-out.result t c.in_ok-call_round.field-0 r c.call_round.new.out u c.in-Some.is
    (c.in_ok-call_round.ensures l.link 2 asks_token (λ code block. with_token l.caller token) (token-asked c.args.now token l c.args.request.now t awaits)))
    refl refl refl
