use Rattle.std.proofs.Common.{◌∙◌, ap, sym, take}
use Rattle.fork_bytes.specs.Blocks.{trimmed}
use Rattle.fork_bytes.proofs.Writes.{spliced_is}
use Rattle.fork_bytes.proofs.write.spliced.Goals as goal

pub returns : goal.returns
returns c =
    c.truncate.ensures ∙ ap (take c.trimmed_len-len.result) (sym c.as_slice.ensures) ∙ c.trimmed_len-len.ensures.trims
    ∙ ap trimmed (c.as_slice.ensures ∙ c.in_ok-new.ensures
    ∙ spliced_is c.args.old.now c.args.part.now c.front_of-front.result.now c.zeros-gap.result.now c.rest_of.result.now c.args.low c.requires.some
    c.front_of-front.ensures c.zeros-gap.ensures c.rest_of.ensures)
