use Rattle.std.proofs.Common.{rules, inl, inr}
use Rattle.std.proofs.lemmas.Bool.{cases_Bool}
use Rattle.afp_calls_grammar.specs.grammar.Spelt.{is_command}
use Rattle.afp_core_dispatch.proofs.spelling.judged_call.Goals as goal

-- what is read begins with a command
pub returns-in-Ok : goal.returns-in-Ok
returns-in-Ok c w s r user block enclosed = elim (cases_Bool (is_command c.in-Some.command.now)) [
  | inl known ↦ search (rules, known)
  | inr unknown ↦ absurd (c.in-Ok.ensures.unknown (search (rules, unknown)))
]
