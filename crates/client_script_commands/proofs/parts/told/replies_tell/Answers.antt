use Rattle.client_script_commands.proofs.OfParts.PartLemmas.{tells_value, tells_memory, tells_none, tells_stop}
use Rattle.client_script_commands.proofs.parts.told.replies_tell.Goals as goal

pub returns-clause-value : goal.returns-clause-value
returns-clause-value g c = λ told call before after reply value h e. tells_value told call before after reply value h e

pub returns-clause-none : goal.returns-clause-none
returns-clause-none g c = λ told call before after reply h e. tells_none _ told call before after reply h e

pub returns-clause-stops : goal.returns-clause-stops
returns-clause-stops g c = λ told call before after stop h. tells_stop told call before after stop h

pub returns-clause-memory : goal.returns-clause-memory
returns-clause-memory g c = λ told call before after reply h. tells_memory _ told call before after reply h
