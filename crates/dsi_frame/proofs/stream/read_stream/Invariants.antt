use Rattle.std.proofs.Common.{take}
use Rattle.dsi_frame.proofs.StreamLemmas.{joined, Read}
use Rattle.dsi_frame.proofs.stream.read_stream.Given as goal

abbrev pub invariant-loop-piece : goal.invariant-loop-piece
invariant-loop-piece l = Read (joined (take l.piece-index l.pieces)) l.frames l.deframer
