use Rattle.std.proofs.Common.{ap}
use Rattle.std.proofs.lemmas.Result.{IfOk-weaker}
use Rattle.afp_client.specs.session.State.{ClientState}
use Rattle.afp_serial.specs.Token.{session_token}
use Rattle.once_across_breaks_drill.proofs.OfRounds.Linking.{first-link, first-token}
use Rattle.once_across_breaks_drill.proofs.rounds.first.open_first.Goals as goal

pub log_in-requires-clause-unlinked : goal.log_in-requires-clause-unlinked
log_in-requires-clause-unlinked g c = ap (λ (s : ClientState). s.stage) c.in_ok-caller.ensures

pub log_in-requires-clause-guest : goal.log_in-requires-clause-guest
log_in-requires-clause-guest g c = ap (λ (s : ClientState). s.login.user) c.in_ok-caller.ensures

pub token_round-requires : goal.token_round-requires
token_round-requires g c = (
  session_token c.args.house.now.token_key 1,
  first-token c.a_token_is_found.ensures c.args.house.now c.args.now c.in_ok-caller.caller c.new-request.result c.as_slice.result.now c.log_in.new.out (g.T.Teller.shown c.args.teller.now) (g.T.Teller.shown c.log_in.new.teller) c.in_ok-linked.linked
      c.in_ok-caller.ensures c.requires c.new-request.ensures c.as_slice.ensures c.in_ok-linked.ensures c.in_ok-is_first.ensures,
)

pub returns : goal.returns
returns g c =
    IfOk-weaker c.token_round.result _ _
    (λ l y. first-link c.args.house.now c.args.now c.in_ok-caller.caller c.new-request.result c.log_in.new.out (g.T.Teller.shown c.args.teller.now) (g.T.Teller.shown c.log_in.new.teller) (g.T.Teller.shown c.token_round.new.teller) c.in_ok-linked.linked l
    c.requires c.in_ok-linked.ensures c.in_ok-is_first.ensures
    (y (session_token c.args.house.now.token_key 1)
    (first-token c.a_token_is_found.ensures c.args.house.now c.args.now c.in_ok-caller.caller c.new-request.result c.as_slice.result.now c.log_in.new.out (g.T.Teller.shown c.args.teller.now) (g.T.Teller.shown c.log_in.new.teller) c.in_ok-linked.linked
    c.in_ok-caller.ensures c.requires c.new-request.ensures c.as_slice.ensures c.in_ok-linked.ensures c.in_ok-is_first.ensures)))
    c.token_round.ensures
