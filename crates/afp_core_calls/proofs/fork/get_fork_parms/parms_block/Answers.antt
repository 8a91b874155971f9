use Rattle.afp_core_calls.proofs.OfFork.ForkCallRows.{params-bytes}
use Rattle.afp_core_calls.proofs.fork.get_fork_parms.parms_block.Goals as goal

pub returns : goal.returns
returns g c = λ v file there found.
    params-bytes c.args.bits _ c.in_ok-block.block c.push_u16.new.self c.put_file_params.new.out c.in_ok-block.ensures c.in_ok-push_u16.ensures.ok (c.in_ok-put_file_params.ensures.ok v file there found)
