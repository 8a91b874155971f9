use Rattle.std.proofs.lemmas.List.{take-replicate}
use Rattle.fork_bytes.proofs.block.zeros.Goals as goal

pub returns : goal.returns
returns c = take-replicate c.args.n 4096 0 c.requires
