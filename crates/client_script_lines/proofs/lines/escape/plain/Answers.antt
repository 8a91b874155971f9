use Rattle.std.proofs.Common.{rules, sym}
use Rattle.client_script_lines.proofs.OfLines.Escapes.{read_all}
use Rattle.client_script_lines.proofs.lines.escape.plain.Goals as goal

pub returns : goal.returns
returns c = sym (read_all c.args.word.now c.loop-rest.rest.now c.loop-rest.bytes c.loop-rest.invariant (search rules))
