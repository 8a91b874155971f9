use Rattle.afp_calls_grammar.proofs.OfGrammar.ReaderLemmas.{spelt_spells, unknown_is_none}
use Rattle.afp_calls_grammar.proofs.OfGrammar.CallLemmas.{readers_sound, request_read, spells_one}
use Rattle.afp_calls_grammar.proofs.grammar.laws.one_request_for_each.Goals as goal

pub returns-clause-one : goal.returns-clause-one
returns-clause-one c = spells_one

pub returns-clause-function : goal.returns-clause-function
returns-clause-function c = λ block enclosed call. (λ h. spelt_spells readers_sound block enclosed call h, λ h. request_read call block enclosed h)

pub returns-clause-unknown : goal.returns-clause-unknown
returns-clause-unknown c = unknown_is_none
