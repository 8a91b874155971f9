use Rattle.client_script_commands.proofs.OfParts.PartLemmas.{comes_memory, comes_bad, comes_refused, comes_done}
use Rattle.client_script_commands.proofs.parts.told.parts_end.Goals as goal

pub returns-clause-memory : goal.returns-clause-memory
returns-clause-memory g c = λ before part result e. rw e (comes_memory _ before part)

pub returns-clause-bad : goal.returns-clause-bad
returns-clause-bad g c = λ before result e. rw e (comes_bad _ before)

pub returns-clause-refused : goal.returns-clause-refused
returns-clause-refused g c = λ before code result e. rw e (comes_refused _ before code)

pub returns-clause-done : goal.returns-clause-done
returns-clause-done g c = λ before text result e. rw e (comes_done _ before text)
