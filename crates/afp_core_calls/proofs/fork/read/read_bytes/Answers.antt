use Rattle.std.proofs.lemmas.Bool.{eq-eqb, ne_eqb}
use Rattle.afp_core_calls.proofs.OfFork.ForkBytesLemmas.{line-read, whole-read}
use Rattle.afp_core_calls.proofs.fork.read.read_bytes.Goals as goal

pub returns-then-span-eq0 : goal.returns-then-span-eq0
returns-then-span-eq0 g c =
    whole-read c.args.kept.now.state.rows c.args.fork.now.node c.args.fork.now.resource c.args.span.now c.read_all.new.out c.read_all.result (eq-eqb c.args.span.now.mask 0 c.if-span-eq0.true) c.read_all.ensures.fewer c.read_all.ensures.bytes

pub returns : goal.returns
returns g c =
    line-read c.args.kept.now.state.rows c.args.fork.now.node c.args.fork.now.resource c.args.span.now c.read_line.new.out c.lines_stop_at_characters.ensures.stopped c.lines_stop_at_characters.ensures.bytes
    c.read_line.result (ne_eqb c.args.span.now.mask 0 c.if-span-eq0.false) c.read_line.ensures.fewer c.read_line.ensures.bytes
