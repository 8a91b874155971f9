use Rattle.std.proofs.Common.{sym}
use Rattle.fork_bytes.proofs.Blocks.{length-bytes}
use Rattle.fork_bytes.proofs.fork.Fork.len.Goals as goal

pub returns : goal.returns
returns c = rw (← c.self.view_is) (sym (length-bytes _ _))
