use Rattle.once_across_breaks_code.proofs.OfClient.Calling.{calls-are-commands, logins-are-theirs}
use Rattle.once_across_breaks_code.proofs.client.laws.calls_are_commands.Goals as goal

pub returns-clause-calls : goal.returns-clause-calls
returns-clause-calls c = calls-are-commands c.one_request_for_each.ensures.function

pub returns-clause-logins : goal.returns-clause-logins
returns-clause-logins c = logins-are-theirs c.effects_are_those_of_the_history.ensures.logins
