use Rattle.std.proofs.Common.{ℕ, List, sym, ap, ◌∙◌, subst, arith}
use Rattle.dsi_frame.specs.Buffered.{Buffered}
use Rattle.afp_outside.specs.ends.Gate.{Passed}
use Rattle.afp_server.specs.link.Progress.{point}
use Rattle.afp_server.specs.link.lemma.SessionState.{SessionState}
use Rattle.afp_server.specs.connection.Connection.{ConnectionState, Stands}
use Rattle.afp_server.specs.connection.Standing.{IsLive, RestsAt, StandsBy}
use Rattle.afp_server.specs.declared.connection.standing.Standing.{Standing}
use Rattle.afp_server.specs.declared.link.stage.Stage.{Stage}
use Rattle.afp_server.proofs.OfConnection.Turning.{in-turn-from, in-turn-goes}
use Rattle.afp_server.proofs.connection.connection.Connection.tick.Goals as goal

pub returns-clause-goes : goal.returns-clause-goes
returns-clause-goes g c = λ passed.
    let i = c.self.inside in
    let state = g.L.ReadyLink.link_state in
    let t = c.tick_from-standing in
    let held : Buffered = record { place = i.place; rest = i.rest } in
    let block = ap (λ (s : SessionState). s.block) c.resume.ensures ∙ c.room.view_is in
    in-turn-from _ _ _ _ _
    (λ start shown at.
    let here = subst (λ (s : ConnectionState g.row.L.Denot g.row.A.Denot). Stands state passed c.args.room.now c.args.turn.now.turns s start shown) (sym c.self.view_is) at in (
      (here.0.0 ∙ sym block, here.0.1),
      subst (λ (s : Standing). StandsBy start i.cost s (point held c.resume.new.self.stage i.requests (state i.link) shown (passed i.log))) (sym c.replace-standing.ensures.value)
          (subst (λ (x : Stage). StandsBy start i.cost i.standing (point held x i.requests (state i.link) shown (passed i.log))) (sym (ap (λ (s : SessionState). s.stage) c.resume.ensures)) here.1),
    ))
    (in-turn-goes _ _ _ _ _ (t.ensures.goes held (passed i.log) (subst (λ (s : Standing). RestsAt s i.rest) (sym c.replace-standing.ensures.value) c.self.invariant.1))
    (λ start shown at. (
      (at.0.0 ∙ block, at.0.1),
      subst (λ (s : Standing). StandsBy start t.new.cost s (point held c.stage-self-inside.result t.new.requests (state t.new.link) shown (passed i.log))) (sym c.noted.ensures)
          (subst (λ (x : Stage). StandsBy start t.new.cost t.result (point held x t.new.requests (state t.new.link) shown (passed i.log))) (sym c.stage-self-inside.ensures) at.1),
    )))
