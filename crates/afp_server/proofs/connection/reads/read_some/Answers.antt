use Rattle.std.proofs.Common.{arith}
use Rattle.afp_server.specs.link.Progress.{point}
use Rattle.afp_server.proofs.OfLink.ReadSteps.{so_far-gets}
use Rattle.afp_server.proofs.connection.reads.read_some.Goals as goal

pub returns-in-Got-clause-reads : goal.returns-in-Got-clause-reads
returns-in-Got-clause-reads g c = λ start stage requests shown passed of s.
    let b = c.in-Got.ensures.reads in
    so_far-gets start (point c.args.deframer.now stage requests (g.L.ReadyLink.link_state c.args.link.now) shown passed) c.args.cost.now c.in-Got.n (g.L.ReadyLink.link_state c.read_ready.new.link) c.read_ready.new.self b.room
    (record { so_far = s; unfinished = c.requires.unfinished; below = omega (arith, of, c.if-cost-turn.false) }) b.reads b.rest b.place (omega (arith, c.in-Got.ensures.most)) b.fits
