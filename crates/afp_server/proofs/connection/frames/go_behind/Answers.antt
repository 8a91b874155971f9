use Rattle.std.proofs.Common.{ap, arith, length, length-append}
use Rattle.dsi_frame.specs.Buffered.{Buffered}
use Rattle.afp_server.proofs.connection.frames.go_behind.Goals as goal

pub returns-in-None-clause-total : goal.returns-in-None-clause-total
returns-in-None-clause-total c =
    let b = c.requires.1 in
    let same = c.advance.ensures c.requires.0 b.first b.more b.spelling b.whole in
    omega (arith, ap (λ (d : Buffered). d.place) same, ap (λ (d : Buffered). length d.rest) same, ap length b.whole, length-append b.first b.more)
