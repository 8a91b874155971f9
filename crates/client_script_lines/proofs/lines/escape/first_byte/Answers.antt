use Rattle.std.proofs.Common.{rules, ◌∙◌, arith, drop}
use Rattle.client_script_lines.specs.lines.Words.{plain}
use Rattle.client_script_lines.proofs.OfLines.Escapes.{literal, short_escape, long_escape, none_escaped, some_escaped}
use Rattle.client_script_lines.proofs.lines.escape.first_byte.Goals as goal

pub returns-then-byte-ne37-clause-plain : goal.returns-then-byte-ne37-clause-plain
returns-then-byte-ne37-clause-plain c = rw c.rest_of.ensures (literal c.args.word.now c.requires (search rules))

pub returns-then-word-lt3-clause-plain : goal.returns-then-word-lt3-clause-plain
returns-then-word-lt3-clause-plain c = short_escape c.args.word.now c.requires (omega arith) (search rules)

pub returns-in-Some-clause-plain : goal.returns-in-Some-clause-plain
returns-in-Some-clause-plain c = rw c.rest_of-in-Some.ensures (long_escape c.args.word.now (omega arith) (search rules) ∙ some_escaped _ c.in-Some.spelt (plain (drop 3 c.args.word.now)) c.in-Some.ensures (search rules))

pub returns-in-None-clause-plain : goal.returns-in-None-clause-plain
returns-in-None-clause-plain c = long_escape c.args.word.now (omega arith) (search rules) ∙ none_escaped _ (plain (drop 3 c.args.word.now)) c.in-None.ensures
