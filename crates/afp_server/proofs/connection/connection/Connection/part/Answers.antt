use Rattle.std.proofs.Common.{◌≡◌, ℕ, List, ◌++◌, sym, ap, ◌∙◌, subst}
use Rattle.afp_outside.specs.ends.Gate.{Passed}
use Rattle.afp_serial.specs.Went.{Step}
use Rattle.afp_server.specs.link.LinkRun.{Parts}
use Rattle.afp_server.specs.link.lemma.SessionState.{SessionState}
use Rattle.afp_server.specs.connection.Turn.{shown_to}
use Rattle.afp_server.specs.connection.Connection.{ConnectionState, IsParted, Stands}
use Rattle.afp_server.specs.connection.Standing.{StandsBy}
use Rattle.afp_server.specs.link.Progress.{point}
use Rattle.afp_server.specs.declared.connection.standing.Standing.{Standing}
use Rattle.afp_server.specs.declared.connection.standing.Standing.TheVariants as stands
use Rattle.afp_server.specs.declared.link.stage.Stage.{Stage}
use Rattle.afp_server.proofs.OfConnection.Parting.{was-served}
use Rattle.afp_server.proofs.connection.connection.Connection.part.Goals as goal

pub returns-clause-parts : goal.returns-clause-parts
returns-clause-parts g c = λ passed turns.
    let i = c.self.inside in
    let link = g.L.ReadyLink.link_state i.link in
    let before = g.T.Teller.shown c.args.teller.now in
    let after = g.T.Teller.shown c.lose.new.teller in
    let p = c.lose.ensures.parts in
    let is : i.standing ≡ stands.Over c.requires.over.0 = ap (λ (s : ConnectionState g.row.L.Denot g.row.A.Denot). s.standing) c.self.view_is ∙ c.requires.over.1 in
    let parts : Parts i.stage link.now p.steps = subst (λ (n : ℕ). Parts i.stage n p.steps) c.now.ensures (subst (λ (s : Stage). Parts s c.now.result p.steps) (ap (λ (s : SessionState). s.stage) c.resume.ensures) p.parts) in
    record {
      steps = p.steps;
      went = p.went;
      places = p.went.places;
      mine = p.went.mine;
      comes = λ start own at.
          let here = subst (λ (s : ConnectionState g.row.L.Denot g.row.A.Denot). Stands g.L.ReadyLink.link_state passed c.args.room.now turns s start (shown_to own before)) (sym c.self.view_is) at in
          let over = subst (λ (t : Standing). StandsBy start i.cost t (point (record { place = i.place; rest = i.rest }) i.stage i.requests link (shown_to own before) (passed i.log))) is here.1 in
          subst (λ (s : ConnectionState g.row.L.Denot g.row.A.Denot). IsParted passed start s.standing link s.log (shown_to (own ++ p.went.places) after)) c.self.view_is
          (subst (λ (t : Standing). IsParted passed start t link i.log (shown_to (own ++ p.went.places) after)) (sym is)
          (was-served passed i.log start i.cost c.requires.over.0 (record { place = i.place; rest = i.rest }) i.stage i.requests link before after own p.steps parts p.went over));
    }
