use Rattle.std.proofs.Common.{◌<◌, ◌^◌, length, List, ℕ, []}
use Rattle.client_script_commands.specs.get.Reads.{reads}
use Rattle.client_script_commands.specs.parts.Parts.{Part}
use Rattle.client_script_commands.specs.parts.Told.{Carries}
use Rattle.client_script_commands.proofs.get.reads.read_all.Given as goal

abbrev pub invariant-loop-got : goal.invariant-loop-got
invariant-loop-got g l = (length l.got < 2 ^ 31) × ((next : List ℕ → Part) → Carries g.row.A-End.Denot (g.A.Asker.exchanges l.initial.asker) (reads l.reference next []) (g.A.Asker.exchanges l.asker) (reads l.reference next l.got))

abbrev pub decreases-loop-got : goal.decreases-loop-got
decreases-loop-got g l = g.A.Asker.left l.asker
