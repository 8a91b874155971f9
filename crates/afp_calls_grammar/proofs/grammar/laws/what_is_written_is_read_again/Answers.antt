use Rattle.afp_calls_grammar.specs.grammar.Call.{canonical_call, canonical_data}
use Rattle.afp_calls_grammar.proofs.OfGrammar.CallLemmas.{canonical_is_spelt, request_read, spells_one}
use Rattle.afp_calls_grammar.proofs.grammar.laws.what_is_written_is_read_again.Goals as goal

pub returns-clause-spelt : goal.returns-clause-spelt
returns-clause-spelt c = canonical_is_spelt

pub returns-clause-one : goal.returns-clause-one
returns-clause-one c = λ call other typed fits h. spells_one (canonical_call call) (canonical_data call) other call h (canonical_is_spelt call typed fits)

pub returns-clause-again : goal.returns-clause-again
returns-clause-again c =
    λ call typed fits. request_read call (canonical_call call) (canonical_data call) (canonical_is_spelt call typed fits)
