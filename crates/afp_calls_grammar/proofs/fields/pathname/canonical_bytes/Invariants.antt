use Rattle.std.proofs.Common.{◌≡◌, ◌++◌, drop}
use Rattle.std.specs.Option.{option_copied}
use Rattle.afp_names.specs.Path.{steps_bytes, canonical_path}
use Rattle.afp_calls_grammar.proofs.fields.pathname.canonical_bytes.Given as goal

abbrev pub invariant-loop-i : goal.invariant-loop-i
invariant-loop-i l = l.bytes ++ steps_bytes l.kind (option_copied l.before) (drop l.i l.path.steps) ≡ canonical_path l.path
