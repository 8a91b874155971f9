use Rattle.std.proofs.Common.{refl, to_z-of_z}
use Rattle.afp_calls_grammar.specs.declared.grammar.call.Call.TheVariants.{ReadExt}
use Rattle.afp_core_calls.proofs.OfFork.ForkBytesLemmas.{read_ext-row}
use Rattle.afp_core_calls.proofs.fork.read.read_ext.Goals as goal

pub returns : goal.returns
returns g c =
    let a = c.args in
    c.read_span.ensures (ReadExt a.reference a.offset a.count) (record { offset = a.offset; count = a.count; mask = 0; character = 0 }) (read_ext-row a.reference a.offset a.count) refl
    (simp (to_z-of_z, c.ranges.offset, c.ranges.count) at c.span_of-span.ensures)
