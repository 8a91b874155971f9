use Rattle.std.proofs.Common.{ℕ, List, [], ◌++◌, sym, subst, ap, refl}
use Rattle.afp_outside.specs.ends.Gate.{Passed, with_exited}
use Rattle.afp_serial.specs.Shown.{Shown}
use Rattle.afp_server.specs.link.Progress.{point, SoFar, Ended, LeavesBy}
use Rattle.afp_server.specs.link.lemma.SessionState.{SessionState}
use Rattle.afp_server.specs.connection.Turn.{shown_to}
use Rattle.afp_server.specs.connection.Standing.{ServesThen}
use Rattle.afp_server.specs.declared.connection.standing.Then.{Then}
use Rattle.afp_server.specs.declared.link.serve.LinkEnd.TheVariants as links
use Rattle.afp_server.specs.declared.link.stage.Stage.{Stage}
use Rattle.afp_server.specs.declared.link.stage.Stage.TheVariants as stages
use Rattle.afp_server.proofs.OfConnection.Turning.{leaves-own, in-turn-none}
use Rattle.afp_server.proofs.connection.frames.finish.Goals as goal

pub returns-in-GoesOn-clause-finishes : goal.returns-in-GoesOn-clause-finishes
returns-in-GoesOn-clause-finishes g c = λ cost held requests.
    in-turn-none _ _ _ _ refl (λ start shown s.
    subst (λ (p : Passed). SoFar start (point held c.args.session.now.stage requests (g.L.ReadyLink.link_state c.args.link.now) shown p) cost) (sym c.exit_gate.ensures)
    (subst (λ (t : Then). ServesThen start cost t (point held c.args.session.now.stage requests (g.L.ReadyLink.link_state c.args.link.now) shown (with_exited (g.G.Gate.passed c.args.log.now) c.args.called))) c.in-GoesOn.is s))

pub returns-in-Ends-clause-finishes : goal.returns-in-Ends-clause-finishes
returns-in-Ends-clause-finishes g c = λ cost held requests.
    in-turn-none _ _ _ _ refl (λ start shown s.
    subst (λ (p : Passed). Ended start c.in-Ends.end c.args.session.now.stage (g.L.ReadyLink.link_state c.args.link.now) shown p) (sym c.exit_gate.ensures)
    (subst (λ (t : Then). ServesThen start cost t (point held c.args.session.now.stage requests (g.L.ReadyLink.link_state c.args.link.now) shown (with_exited (g.G.Gate.passed c.args.log.now) c.args.called))) c.in-Ends.is s))

pub returns-in-Leaves-clause-finishes : goal.returns-in-Leaves-clause-finishes
returns-in-Leaves-clause-finishes g c = λ cost held requests.
    let link = g.L.ReadyLink.link_state c.args.link.now in
    let before = g.T.Teller.shown c.args.teller.now in
    let after = g.T.Teller.shown c.leave.new.teller in
    let l : LeavesBy link.now c.in-Leaves.number before after = subst (λ (n : ℕ). LeavesBy n c.in-Leaves.number before after) c.now.ensures c.leave.ensures.leaves in
    record {
      steps = _;
      went = l.went;
      places = l.went.places;
      mine = l.went.mine;
      comes = λ start own s.
          let at = subst (λ (t : Then). ServesThen start cost t (point held c.args.session.now.stage requests link (shown_to own before) (with_exited (g.G.Gate.passed c.args.log.now) c.args.called))) c.in-Leaves.is s in
          subst (λ (x : Stage). Ended start links.Drained x link (shown_to (own ++ l.went.places) after) (g.G.Gate.passed c.exit_gate.new.log)) (sym (ap (λ (s : SessionState). s.stage) c.leave.ensures.closed))
          (subst (λ (p : Passed). Ended start links.Drained stages.Closing link (shown_to (own ++ l.went.places) after) p) (sym c.exit_gate.ensures)
          (at (shown_to (own ++ l.went.places) after) (leaves-own link.now c.in-Leaves.number own before after l)));
    }
