use Rattle.std.proofs.Common.{ap}
use Rattle.std.proofs.lemmas.Result.{IfOk-weaker}
use Rattle.afp_client.specs.session.State.{ClientState}
use Rattle.once_across_breaks_drill.proofs.OfRounds.Linking.{awaits-back, comes-back, lost-state}
use Rattle.once_across_breaks_drill.proofs.rounds.back.come_back.Goals as goal

pub log_in-requires-clause-unlinked : goal.log_in-requires-clause-unlinked
log_in-requires-clause-unlinked g c = ap (λ (s : ClientState). s.stage) (lost-state c.requires.0 c.requires.1 c.requires.2 c.args.linked c.broke.new.self c.requires.3 c.broke.ensures)

pub log_in-requires-clause-guest : goal.log_in-requires-clause-guest
log_in-requires-clause-guest g c = ap (λ (s : ClientState). s.login.user) (lost-state c.requires.0 c.requires.1 c.requires.2 c.args.linked c.broke.new.self c.requires.3 c.broke.ensures)

pub back_round-requires : goal.back_round-requires
back_round-requires g c = (
  c.requires.0,
  awaits-back c.args.now c.requires.0 c.requires.1 c.requires.2 c.broke.new.self c.new-request.result c.as_slice.result.now c.log_in.new.out (g.T.Teller.shown c.lose.new.teller) (g.T.Teller.shown c.log_in.new.teller) c.in_ok-again.again
      c.requires.3.small (lost-state c.requires.0 c.requires.1 c.requires.2 c.args.linked c.broke.new.self c.requires.3 c.broke.ensures) c.new-request.ensures c.as_slice.ensures c.in_ok-again.ensures,
)

pub returns : goal.returns
returns g c =
    IfOk-weaker c.back_round.result _ _
    (λ l y token w next linked.
    comes-back c.args.now token w next c.args.linked c.in_ok-again.again l c.broke.new.self c.new-request.result c.log_in.new.out c.args.out.now c.back_round.new.out
    (g.T.Teller.shown c.args.teller.now) (g.T.Teller.shown c.lose.new.teller) (g.T.Teller.shown c.log_in.new.teller) (g.T.Teller.shown c.back_round.new.teller) linked c.broke.ensures c.in_ok-lose.ensures c.in_ok-again.ensures c.in_ok-is_next.ensures
    (y token
    (awaits-back c.args.now token w next c.broke.new.self c.new-request.result c.as_slice.result.now c.log_in.new.out (g.T.Teller.shown c.lose.new.teller) (g.T.Teller.shown c.log_in.new.teller) c.in_ok-again.again
    linked.small (lost-state token w next c.args.linked c.broke.new.self linked c.broke.ensures) c.new-request.ensures c.as_slice.ensures c.in_ok-again.ensures)))
    c.back_round.ensures
