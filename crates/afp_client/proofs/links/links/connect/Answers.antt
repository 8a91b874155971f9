use Rattle.std.proofs.Common.{[]}
use Rattle.afp_client.proofs.OfLinks.TalkLemmas.{opens-left, none-now, none-later}
use Rattle.afp_client.proofs.links.links.connect.Goals as goal

pub returns-in-Err-clause-connects : goal.returns-in-Err-clause-connects
returns-in-Err-clause-connects g c = λ first old past is between.
    none-now g.D.Link.Link.link_state c.args.turns first old past c.in-Err.end c.rejoin.new.cost (g.D.Dialer.dialer_state c.rejoin.new.dialer) (c.in-Err.ensures.rejoins first old past is between)

pub returns-in-Ok-await_links-clause-connects : goal.returns-in-Ok-await_links-clause-connects
returns-in-Ok-await_links-clause-connects g c = λ first old past is between.
    opens-left g.D.Link.Link.link_state c.args.turns first old past c.in-Ok-await_links.left.link c.in-Ok-await_links.left.came c.opened_on.result c.await_links.new.core c.await_links.new.noted c.await_links.new.idle c.await_links.new.cost
    (g.D.Dialer.dialer_state c.await_links.new.dialer) (g.D.Dialer.dialer_state c.opened_on.new.dialer)
    (c.in-Ok-await_links.ensures.leaves first old past [] is (c.in-Ok.ensures.rejoins first old past is between)) c.opened_on.ensures

pub returns-in-Err-await_links-clause-connects : goal.returns-in-Err-await_links-clause-connects
returns-in-Err-await_links-clause-connects g c = λ first old past is between.
    none-later g.D.Link.Link.link_state c.args.turns first old past c.in-Err-await_links.end c.await_links.new.cost (g.D.Dialer.dialer_state c.await_links.new.dialer)
    (c.in-Err-await_links.ensures.leaves first old past [] is (c.in-Ok.ensures.rejoins first old past is between))
