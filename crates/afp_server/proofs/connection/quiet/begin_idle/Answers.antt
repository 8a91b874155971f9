use Rattle.std.proofs.Common.{refl}
use Rattle.afp_server.specs.declared.link.serve.LinkEnd.TheVariants as links
use Rattle.afp_server.specs.declared.link.stage.Idle.TheVariants as idles
use Rattle.afp_server.proofs.OfLink.Idling.{at_link, idle-silent, idle-fresh, idle-displaced}
use Rattle.afp_server.proofs.OfConnection.Quiet.{idled-on, idled-over, asked}
use Rattle.afp_server.proofs.connection.quiet.begin_idle.Goals as goal

pub returns-in-On-clause-idles : goal.returns-in-On-clause-idles
returns-in-On-clause-idles g c = λ before cost held passed r few.
    let link = g.L.ReadyLink.link_state c.args.link.now in
    idled-on held c.args.session.now.stage c.idle.new.self.stage c.args.requests.now c.args.requests.now before link link (g.T.Teller.shown c.args.teller.now) (g.T.Teller.shown c.idle.new.teller) passed cost r few
    (idle-fresh link c.args.session.now c.idle.new.self c.args.requests.now _ _
    (at_link link _ _ c.args.session.now _ idles.On c.idle.new.self _ c.last_read-last.ensures c.now-now.ensures c.in-On.ensures.asks))

pub returns-in-Silent-clause-idles : goal.returns-in-Silent-clause-idles
returns-in-Silent-clause-idles g c = λ before cost held passed r few.
    let link = g.L.ReadyLink.link_state c.args.link.now in
    idled-over held c.args.session.now.stage c.idle.new.self.stage c.args.requests.now c.args.requests.now before link link (g.T.Teller.shown c.args.teller.now) (g.T.Teller.shown c.idle.new.teller) passed cost (links.Silent c.last_read-last.result c.now-now.result) r few
    (idle-silent link c.args.session.now c.idle.new.self c.args.requests.now _ _ _ _ c.last_read-last.ensures c.now-now.ensures
    (at_link link _ _ c.args.session.now _ idles.Silent c.idle.new.self _ c.last_read-last.ensures c.now-now.ensures c.in-Silent.ensures.asks))

pub returns-in-Displaced-clause-idles : goal.returns-in-Displaced-clause-idles
returns-in-Displaced-clause-idles g c = λ before cost held passed r few.
    let link = g.L.ReadyLink.link_state c.args.link.now in
    idled-over held c.args.session.now.stage c.idle.new.self.stage c.args.requests.now c.args.requests.now before link link (g.T.Teller.shown c.args.teller.now) (g.T.Teller.shown c.idle.new.teller) passed cost links.Displaced r few
    (idle-displaced link c.args.session.now c.idle.new.self c.args.requests.now _ _
    (at_link link _ _ c.args.session.now _ idles.Displaced c.idle.new.self _ c.last_read-last.ensures c.now-now.ensures c.in-Displaced.ensures.asks))

pub returns-in-Live-clause-idles : goal.returns-in-Live-clause-idles
returns-in-Live-clause-idles g c = λ before cost held passed r few.
    let link = g.L.ReadyLink.link_state c.args.link.now in
    asked held c.args.requests.now c.begin_idle_open.new.requests before link (g.L.ReadyLink.link_state c.begin_idle_open.new.link) c.args.session.now c.idle.new.self (g.T.Teller.shown c.args.teller.now) (g.T.Teller.shown c.idle.new.teller) (g.T.Teller.shown c.begin_idle_open.new.teller) passed cost
    c.in-Live.number c.in-Live.drain c.begin_idle_open.new.session.stage r few
    (at_link link _ _ c.args.session.now _ (idles.Live c.in-Live.number c.in-Live.drain) c.idle.new.self _ c.last_read-last.ensures c.now-now.ensures c.in-Live.ensures.asks)
    c.begin_idle_open.result c.begin_idle_open.ensures.opens
