use Rattle.std.proofs.Common.{◌∷◌, refl, ap}
use Rattle.dsi_session.specs.Pulse.{Moments}
use Rattle.dsi_session.specs.declared.pulse.Due.TheVariants as dues
use Rattle.afp_client.specs.links.History.{was_quiet}
use Rattle.afp_client.proofs.OfLinks.RoundLemmas.{noted-due, on-noted, quiet-goes, quiet-tickles, silent-breaks}
use Rattle.afp_client.proofs.links.round.idle.Goals as goal

pub returns-in-Nothing-clause-comes : goal.returns-in-Nothing-clause-comes
returns-in-Nothing-clause-comes g c = λ start turns before all client cost on.
    let link = g.L.Link.link_state c.args.link.now in
    let noted = record c.args.noted.now { pulse = c.note_read.new.self } in
    quiet-goes start before link.now all client link noted cost
    (on-noted start (was_quiet before link.now ∷ all) client link c.args.noted.now noted cost on refl (ap (λ (m : Moments). m.last_write) c.note_read.ensures))
    (noted-due dues.Nothing link c.args.noted.now noted c.last_read.result c.now.result c.note_read.ensures c.last_read.ensures c.now.ensures c.in-Nothing.ensures)

pub returns-in-Tickle-clause-comes : goal.returns-in-Tickle-clause-comes
returns-in-Tickle-clause-comes g c = λ start turns before all client cost on.
    let link = g.L.Link.link_state c.args.link.now in
    let noted = record c.args.noted.now { pulse = c.note_read.new.self } in
    let here = on-noted start (was_quiet before link.now ∷ all) client link c.args.noted.now noted cost on refl (ap (λ (m : Moments). m.last_write) c.note_read.ensures) in
    c.tickle.ensures.comes start turns (was_quiet before link.now ∷ all) client cost here
    (quiet-tickles start before link.now all client link noted cost here
    (noted-due dues.Tickle link c.args.noted.now noted c.last_read.result c.now.result c.note_read.ensures c.last_read.ensures c.now.ensures c.in-Tickle.ensures))

pub returns-in-Silent-clause-comes : goal.returns-in-Silent-clause-comes
returns-in-Silent-clause-comes g c = λ start turns before all client cost on.
    let link = g.L.Link.link_state c.args.link.now in
    let noted = record c.args.noted.now { pulse = c.note_read.new.self } in
    silent-breaks start before link.now all client link noted cost
    (on-noted start (was_quiet before link.now ∷ all) client link c.args.noted.now noted cost on refl (ap (λ (m : Moments). m.last_write) c.note_read.ensures))
    (noted-due dues.Silent link c.args.noted.now noted c.last_read.result c.now.result c.note_read.ensures c.last_read.ensures c.now.ensures c.in-Silent.ensures)
