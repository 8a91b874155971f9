use Rattle.std.proofs.Common.{arith}
use Rattle.dsi_frame.proofs.FrameLemmas.{begins-length}
use Rattle.dsi_frame.proofs.deframer.payload_length.Goals as goal

pub numbers_in-requires : goal.numbers_in-requires
numbers_in-requires c = let enough = begins-length c.args.bytes.now c.requires.0 c.requires.1 in omega (arith, enough)

pub returns-clause-fits : goal.returns-clause-fits
returns-clause-fits c = let enough = begins-length c.args.bytes.now c.requires.0 c.requires.1 in omega (arith, enough)
