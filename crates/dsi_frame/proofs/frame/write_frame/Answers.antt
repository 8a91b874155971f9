use Rattle.std.proofs.Common.{refl}
use Rattle.dsi_frame.proofs.FrameLemmas.{written}
use Rattle.dsi_frame.proofs.frame.write_frame.Goals as goal

pub returns-in-Ok-clause-ok : goal.returns-in-Ok-clause-ok
returns-in-Ok-clause-ok c =
    written c.args.out.now c.args.out.now _ _ c.header_bytes.result c.args.payload.now c.args.h.now
    refl c.header_bytes.ensures c.in_ok-extend.ensures.ok c.in-Ok.ensures.ok c.requires.length
