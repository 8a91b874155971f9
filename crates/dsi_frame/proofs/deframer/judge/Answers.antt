use Rattle.std.proofs.Common.{arith}
use Rattle.dsi_frame.proofs.HeaderLemmas.{good_has_no_fault}
use Rattle.dsi_frame.proofs.FrameLemmas.{begins, header_of-frame_of, cut_is_unfinished}
use Rattle.dsi_frame.proofs.deframer.judge.Goals as goal

pub returns-then-bytes-header-clause-head : goal.returns-then-bytes-header-clause-head
returns-then-bytes-header-clause-head c =
    let good = c.in-Ok.ensures.good in
    cut_is_unfinished c.args.bytes.now (good_has_no_fault c.args.bytes.now c.in-Ok.header good) (omega (arith, good.size))

pub returns-else-bytes-header-clause-head : goal.returns-else-bytes-header-clause-head
returns-else-bytes-header-clause-head c =
    let good = c.in-Ok.ensures.good in (
      _,
      begins c.in-Ok.header c.args.bytes.now (omega arith) (λ i. omega (arith, c.type_inv.bytes i)) good (omega arith),
      header_of-frame_of c.in-Ok.header c.args.bytes.now (omega arith),
    )
