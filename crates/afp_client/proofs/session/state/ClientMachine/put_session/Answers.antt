use Rattle.std.proofs.Common.{◌≡◌, ◌++◌, OnOk, subst}
use Rattle.dsi_frame.specs.Frame.{canonical_frame}
use Rattle.afp_calls_grammar.specs.declared.grammar.call.Call.{Call}
use Rattle.afp_client.specs.session.Opening.{command_frame}
use Rattle.afp_client.proofs.session.state.ClientMachine.put_session.Goals as goal

pub returns-clause-ok : goal.returns-clause-ok
returns-clause-ok c =
    subst (λ (call : Call). OnOk c.put_command.result (c.put_command.new.out ≡ c.args.out.now ++ canonical_frame (command_frame c.args.id call))) c.in_ok-call.ensures.call c.put_command.ensures.ok
