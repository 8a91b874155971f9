use Rattle.afp_calls.proofs.GroupLemmas.{block_is}
use Rattle.afp_calls.proofs.write.put_block.Goals as goal

pub returns-in-Ok-clause-put : goal.returns-in-Ok-clause-put
returns-in-Ok-clause-put c =
    block_is c.fields_are_put_together.ensures c.args.call.now c.args.block.now c.put_call.new.out c.in-Ok.ensures.put.bytes
