use Rattle.std.proofs.Common.{refl}
use Rattle.afp_client.proofs.OfLinks.RejoinLemmas.{begins-over, none-begun, none-dialled}
use Rattle.afp_client.proofs.links.links.rejoin.Goals as goal

pub returns-in-Err-clause-rejoins : goal.returns-in-Err-clause-rejoins
returns-in-Err-clause-rejoins g c = λ first old past allows between.
    none-dialled g.D.Link.Link.link_state c.args.turns first old past c.args.core.now c.args.idle c.args.cost.now c.dial_next.new.cost c.in-Err.end (g.D.Dialer.dialer_state c.args.dialer.now) (g.D.Dialer.dialer_state c.dial_next.new.dialer)
    between c.in-Err.ensures.dials.0 c.in-Err.ensures.dials.1

pub returns-in-Ok-start-clause-rejoins : goal.returns-in-Ok-start-clause-rejoins
returns-in-Ok-start-clause-rejoins g c = λ first old past allows between.
    let dials = c.in-Ok.ensures.dials in
    begins-over g.D.Link.Link.link_state c.args.turns first old past c.args.core.now c.start.new.self c.args.out.now c.start.new.out _ c.args.idle c.args.cost.now c.dial_next.new.cost c.in-Ok.link
    (g.D.Dialer.dialer_state c.args.dialer.now) (g.D.Dialer.dialer_state c.dial_next.new.dialer) allows between dials.0 dials.1 dials.2 dials.3 c.requires.empty refl c.in-Ok-start.ensures.state c.in-Ok-start.ensures.frame

pub returns-in-Err-start-clause-rejoins : goal.returns-in-Err-start-clause-rejoins
returns-in-Err-start-clause-rejoins g c = λ first old past allows between.
    let dials = c.in-Ok.ensures.dials in
    none-begun g.D.Link.Link.link_state c.args.turns first old past c.args.core.now c.args.idle c.args.cost.now c.dial_next.new.cost c.in-Ok.link
    (g.D.Dialer.dialer_state c.args.dialer.now) (g.D.Dialer.dialer_state c.dial_next.new.dialer) (g.D.Dialer.dialer_state c.back.new.self) between dials.0 c.back.ensures dials.1
