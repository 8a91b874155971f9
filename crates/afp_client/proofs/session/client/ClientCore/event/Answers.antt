use Rattle.std.proofs.Common.{subst}
use Rattle.afp_client.specs.session.State.{Client}
use Rattle.afp_client.specs.session.Happens.{Happens}
use Rattle.afp_client.proofs.session.client.ClientCore.event.Goals as goal

pub returns-clause-happens : goal.returns-clause-happens
returns-clause-happens c =
    subst (λ (before : Client). Happens before c.args.out.now c.take_next.result (record { state = c.take_next.new.machine; held = c.take_next.new.deframer }) c.take_next.new.out) c.self.view_is c.take_next.ensures.happens
