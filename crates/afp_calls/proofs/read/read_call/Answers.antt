use Rattle.afp_calls.proofs.AnswerLemmas.{answer_read, answer_unknown, answer_misspelt}
use Rattle.afp_calls.proofs.read.read_call.Goals as goal

pub returns-clause-read : goal.returns-clause-read
returns-clause-read c = answer_read c.args.block.now _ c.read.result c.read.ensures

pub returns-clause-unknown : goal.returns-clause-unknown
returns-clause-unknown c = answer_unknown c.one_request_for_each.ensures.unknown c.args.block.now _ c.read.result c.read.ensures

pub returns-clause-misspelt : goal.returns-clause-misspelt
returns-clause-misspelt c = answer_misspelt c.args.block.now _ c.read.result c.read.ensures
