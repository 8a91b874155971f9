-- Calls, each with its answer.
use Rattle.std.specs.Prelude.{List, [], ◌∷◌}
use Rattle.afp_calls_grammar.specs.declared.grammar.call.Call.{Call}
use Rattle.client_script_commands.specs.declared.parts.asker.Answer.{Answer}
use Rattle.client_script_commands.specs.parts.Parts.{Exchange}

abbrev pub zipped : List Call → List Answer → List Exchange
zipped [] answers = []
zipped (call ∷ calls) [] = []
zipped (call ∷ calls) (answer ∷ answers) = record { call = call; answer = answer } ∷ zipped calls answers
