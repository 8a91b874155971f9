use Rattle.std.proofs.Common.{arith}
use Rattle.dsi_frame.proofs.BufferLemmas.{moved}
use Rattle.dsi_frame.proofs.deframer.move_to_front.Goals as goal

pub returns : goal.returns
returns c = moved c.args.held c.args.start c.loop-i.buffer c.args.buffer.now (omega arith) c.loop-i.auto.buffer
    (λ k low. c.loop-i.invariant.0 k (omega (arith, low)))
