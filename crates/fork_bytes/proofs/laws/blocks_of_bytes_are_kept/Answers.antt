use Rattle.fork_bytes.proofs.laws.blocks_of_bytes_are_kept.Goals as goal
use Rattle.fork_bytes.proofs.BlocksOf.{blocks_rise, blocks_kept, blocks_few}

pub returns : goal.returns
returns c = record { rising = blocks_rise; kept = blocks_kept; few = blocks_few }
