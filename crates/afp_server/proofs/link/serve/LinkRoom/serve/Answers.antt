use Rattle.std.proofs.Common.{ℕ, List, ◌++◌, refl, subst}
use Rattle.afp_serial.proofs.Grows.{went-join}
use Rattle.afp_server.specs.link.LinkRun.{RunsTo, Parts}
use Rattle.afp_server.proofs.OfLink.Passing.{through-more, parts-calls}
use Rattle.afp_server.proofs.link.serve.LinkRoom.serve.Goals as goal

pub returns-clause-serves : goal.returns-clause-serves
returns-clause-serves g c =
    let e = c.serve_session-end.ensures.serves in
    let p = c.lose.ensures.parts in
    let end = g.L.Link.link_state c.serve_session-end.new.link in (
      e.asked ++ p.steps,
      record {
        asked = e.asked;
        parting = p.steps;
        stage = c.serve_session-end.new.session.stage;
        comes = subst (λ (block : List ℕ). RunsTo block c.args.turns (g.L.Link.link_state c.args.link.now) c.serve_session-end.result c.serve_session-end.new.session.stage end e.asked) c.self.view_is e.comes;
        parts = subst (λ (now : ℕ). Parts c.serve_session-end.new.session.stage now p.steps) c.now.ensures p.parts;
        all = refl;
      },
      went-join _ _ _ e.asked p.steps e.went p.went,
      record { log = c.serve_session-end.new.log; through = through-more c.serve_session-end.result _ e.asked p.steps e.through (parts-calls _ _ p.steps p.parts) },
    )
