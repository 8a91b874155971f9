use Rattle.afp_calls_grammar.specs.grammar.Call.{layout_of}
use Rattle.afp_calls_grammar.proofs.OfGrammar.ReaderLemmas.{begins_can, enclosed_can}
use Rattle.afp_calls_grammar.proofs.grammar.laws.what_is_spelt_can_be_written.Goals as goal

pub returns : goal.returns
returns c = λ call block enclosed small h. record { fields = begins_can (layout_of call).fields 0 block small h.fields; encloses = enclosed_can (layout_of call).enclosed enclosed h.encloses }
