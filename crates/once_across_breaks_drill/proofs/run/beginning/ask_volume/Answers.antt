use Rattle.std.proofs.Common.{refl, ap, lit<, false, ◌≡◌}
use Rattle.afp_calls_grammar.specs.declared.grammar.call.Call.{Call}
use Rattle.afp_client.specs.session.State.{is_of_opening}
use Rattle.once_across_breaks_drill.proofs.OfRun.Ending.{asks-volume}
use Rattle.once_across_breaks_drill.proofs.run.beginning.ask_volume.Goals as goal

pub ask_call-requires-clause-command : goal.ask_call-requires-clause-command
ask_call-requires-clause-command c = ap is_of_opening c.in_ok-call.ensures.call

pub ask_call-requires-clause-linked : goal.ask_call-requires-clause-linked
ask_call-requires-clause-linked c = (c.requires.0, 3, lit< tt, c.requires.1)

pub returns : goal.returns
returns c = λ token linked.
    asks-volume token c.in_ok-call.call c.args.linked c.in_ok-asked.asked c.new-request.result c.ask_call.new.out c.in_ok-call.ensures.call c.new-request.ensures (c.in_ok-asked.ensures token 3 (lit< tt) linked)
