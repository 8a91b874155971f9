use Rattle.afp_server.specs.declared.link.stage.Idle.TheVariants as idles
use Rattle.afp_server.proofs.OfLink.Idling.{at_link, idle-silent, idle-fresh, idle-displaced, idle-live}
use Rattle.afp_server.proofs.link.idle.idle.Goals as goal

pub returns-in-On-clause-idles : goal.returns-in-On-clause-idles
returns-in-On-clause-idles g c =
    let link = g.L.Link.link_state c.args.link.now in
    idle-fresh link c.args.session.now c.idle.new.self c.args.requests.now _ _
    (at_link link _ _ c.args.session.now _ idles.On c.idle.new.self _ c.last_read-last.ensures c.now-now.ensures c.in-On.ensures.asks)

pub returns-in-Silent-clause-idles : goal.returns-in-Silent-clause-idles
returns-in-Silent-clause-idles g c =
    let link = g.L.Link.link_state c.args.link.now in
    idle-silent link c.args.session.now c.idle.new.self c.args.requests.now _ _ _ _ c.last_read-last.ensures c.now-now.ensures
    (at_link link _ _ c.args.session.now _ idles.Silent c.idle.new.self _ c.last_read-last.ensures c.now-now.ensures c.in-Silent.ensures.asks)

pub returns-in-Displaced-clause-idles : goal.returns-in-Displaced-clause-idles
returns-in-Displaced-clause-idles g c =
    let link = g.L.Link.link_state c.args.link.now in
    idle-displaced link c.args.session.now c.idle.new.self c.args.requests.now _ _
    (at_link link _ _ c.args.session.now _ idles.Displaced c.idle.new.self _ c.last_read-last.ensures c.now-now.ensures c.in-Displaced.ensures.asks)

pub returns-in-Live-clause-idles : goal.returns-in-Live-clause-idles
returns-in-Live-clause-idles g c =
    let link = g.L.Link.link_state c.args.link.now in
    idle-live link c.in-Live.number c.in-Live.drain c.args.session.now c.idle.new.self c.args.requests.now c.idle_open.new.requests _ _ _ c.idle_open.result c.idle_open.new.session.stage _
    (at_link link _ _ c.args.session.now _ (idles.Live c.in-Live.number c.in-Live.drain) c.idle.new.self _ c.last_read-last.ensures c.now-now.ensures c.in-Live.ensures.asks) c.idle_open.ensures.idles
