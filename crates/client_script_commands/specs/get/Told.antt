-- What reading a fork does, told over every part that follows (this profile).
use Rattle.std.specs.Prelude.{ℕ, List, Result, Ok, Err}
use Rattle.afp_calls_grammar.specs.declared.grammar.call.Call.{Call}
use Rattle.client_script_commands.specs.declared.parts.asker.Stop.{Stop}
use Rattle.client_script_commands.specs.parts.Parts.{Asked, Comes, Part}
use Rattle.client_script_commands.specs.parts.Told.{Carries}
use Rattle.client_script_commands.specs.get.Reads.{read_fork}

abbrev pub ReadsFork : {E F : Type 0} → Call → Asked F → Result (List ℕ) (Stop E) → Asked F → Type 0
ReadsFork {E} opens before (Ok bytes) after = (next : List ℕ → Part) → Carries E before (read_fork opens next) after (next bytes)
ReadsFork opens before (Err stop) after = (next : List ℕ → Part) → Comes before (read_fork opens next) (Err stop) after
