use Rattle.std.proofs.Common.{ℕ, List, sym, ap, ◌∙◌, subst, arith}
use Rattle.dsi_frame.specs.Buffered.{Buffered}
use Rattle.afp_outside.specs.ends.Gate.{Passed}
use Rattle.afp_server.specs.link.Progress.{point}
use Rattle.afp_server.specs.link.lemma.SessionState.{SessionState}
use Rattle.afp_server.specs.connection.Connection.{ConnectionState, Stands}
use Rattle.afp_server.specs.connection.Standing.{IsLive, RestsAt, StandsBy}
use Rattle.afp_server.specs.declared.connection.standing.Standing.{Standing}
use Rattle.afp_server.specs.declared.link.stage.Stage.{Stage}
use Rattle.afp_server.proofs.OfConnection.Turning.{in-turn-from, in-turn-goes}
use Rattle.afp_server.proofs.connection.connection.Connection.advance.Goals as goal

pub invariant_of-self : goal.invariant_of-self
invariant_of-self g c =
    let t = c.advance_from-standing in
    let k = c.keep-rest.ensures.keeps in (
      subst (λ (x : Stage). IsLive x c.noted.result) (sym c.stage-self-inside.ensures)
          (subst (λ (s : Standing). IsLive t.new.session.stage s) (sym c.noted.ensures) (k.live t.new.session.stage t.ensures.live)),
      subst (λ (s : Standing). RestsAt s c.keep-rest.result.0) (sym c.noted.ensures) (k.rests t.ensures.rests),
      k.fits,
      omega (arith, c.place-self-inside.ensures.place, k.few, t.ensures.total),
    )

pub returns-clause-goes : goal.returns-clause-goes
returns-clause-goes g c =
    let i = c.self.inside in
    let state = g.L.ReadyLink.link_state in
    let passed = g.G.Gate.passed in
    let t = c.advance_from-standing in
    let k = c.keep-rest.ensures.keeps in
    let held : Buffered = record { place = i.place; rest = i.rest } in
    let held_is = c.resume.ensures ∙ ap (λ (rest : List ℕ). record { place = i.place; rest = rest }) c.as_slice.ensures in
    let block = ap (λ (s : SessionState). s.block) c.resume-2.ensures ∙ c.room.view_is in
    let after = state c.keep-rest.new.link in
    in-turn-from _ _ _ _ _
    (λ start shown at.
    let here = subst (λ (s : ConnectionState g.row.L.Denot g.row.A.Denot). Stands state passed c.args.room.now c.args.turn.now.turns s start shown) (sym c.self.view_is) at in (
      (here.0.0 ∙ sym block, here.0.1),
      subst (λ (s : Standing). StandsBy start i.cost s (point c.resume.new.self c.resume-2.new.self.stage i.requests (state i.link) shown (passed i.log))) (sym c.replace-standing.ensures.value)
          (subst (λ (x : Stage). StandsBy start i.cost i.standing (point c.resume.new.self x i.requests (state i.link) shown (passed i.log))) (sym (ap (λ (s : SessionState). s.stage) c.resume-2.ensures))
          (subst (λ (d : Buffered). StandsBy start i.cost i.standing (point d i.stage i.requests (state i.link) shown (passed i.log))) (sym held_is) here.1)),
    ))
    (in-turn-goes _ _ _ _ _ t.ensures.goes
    (λ start shown at. (
      (at.0.0 ∙ block, at.0.1),
      subst (λ (s : Standing). StandsBy start t.new.cost s (point (record { place = c.place-self-inside.result; rest = c.keep-rest.result.0 }) c.stage-self-inside.result t.new.requests after shown (passed t.new.log))) (sym c.noted.ensures)
          (subst (λ (x : Stage). StandsBy start t.new.cost c.keep-rest.result.1 (point (record { place = c.place-self-inside.result; rest = c.keep-rest.result.0 }) x t.new.requests after shown (passed t.new.log))) (sym c.stage-self-inside.ensures)
          (subst (λ (n : ℕ). StandsBy start t.new.cost c.keep-rest.result.1 (point (record { place = n; rest = c.keep-rest.result.0 }) t.new.session.stage t.new.requests after shown (passed t.new.log))) (sym c.place-self-inside.ensures.place)
          (k.stands start t.new.cost t.new.session.stage t.new.requests shown (passed t.new.log) at.1))),
    )))
