use Rattle.afp_calls_grammar.proofs.OfFields.PutLemmas.{put_together}
use Rattle.afp_calls_grammar.proofs.fields.laws.fields_are_put_together.Goals as goal

pub returns : goal.returns
returns c = put_together
