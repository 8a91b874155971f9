use Rattle.std.proofs.Common.{◌≡◌, ◌++◌, length}
use Rattle.client_script_run.specs.line.Values.{last_of, names_in}
use Rattle.client_script_run.proofs.OfLine.ValueLemmas.{rest_text}
use Rattle.client_script_run.proofs.line.values.put_directory.Given as goal

abbrev pub invariant-loop-alloc : goal.invariant-loop-alloc
invariant-loop-alloc l = record {
  directory : l.out ++ rest_text l.left ≡ l.initial.out ++ rest_text l.word;
  name : last_of (names_in l.left) ≡ last_of (names_in l.word);
}

abbrev pub decreases-loop-alloc : goal.decreases-loop-alloc
decreases-loop-alloc l = length l.left
