use Rattle.std.proofs.Common.{sym, ◌∙◌, ap}
use Rattle.fork_bytes.specs.Blocks.{blocks_of}
use Rattle.fork_bytes.proofs.Listed.{blocks_are}
use Rattle.fork_bytes.proofs.fork.Fork.blocks.Goals as goal

pub returns : goal.returns
returns c = c.as_slice.ensures.value ∙ sym (blocks_are c.self.inside.len c.self.inside.blocks.items c.self.invariant.rising c.self.invariant.kept) ∙ ap blocks_of c.self.view_is
