use Rattle.fork_bytes.proofs.laws.blocks_are_bytes.Goals as goal
use Rattle.fork_bytes.proofs.Blocks.{length-bytes}
use Rattle.fork_bytes.proofs.Listed.{blocks_are}
use Rattle.fork_bytes.proofs.BlocksOf.{bytes_back}

pub returns : goal.returns
returns c = record { back = bytes_back; forth = blocks_are; length = length-bytes }
