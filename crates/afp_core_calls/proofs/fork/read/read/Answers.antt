use Rattle.std.proofs.Common.{◌≡◌, of_z, pos, refl, rules, subst, to_z, w64}
use Rattle.afp_calls_grammar.specs.declared.grammar.call.Call.TheVariants.{Read}
use Rattle.afp_serial.specs.ForkBytes.{ReadAsked}
use Rattle.afp_core_calls.specs.fork.lemma.OnForkBytes.{IsSpanOf}
use Rattle.afp_core_calls.proofs.OfFork.ForkBytesLemmas.{read-row}
use Rattle.afp_core_calls.proofs.fork.read.read.Goals as goal

pub returns : goal.returns
returns g c =
    let a = c.args in
    let offset : to_z w64 (of_z w64 c.from.result) ≡ a.offset = search rules in
    let count : to_z w64 (of_z w64 c.from-2.result) ≡ pos a.count = search rules in
    c.read_span.ensures (Read a.reference a.offset a.count a.mask a.character) (record { offset = a.offset; count = pos a.count; mask = a.mask; character = a.character })
    (read-row a.reference a.offset a.count a.mask a.character) refl
    (subst (λ (x : ReadAsked). IsSpanOf x c.span_of-span.result) (λ i. record { offset = offset i; count = count i; mask = a.mask; character = a.character }) c.span_of-span.ensures)
