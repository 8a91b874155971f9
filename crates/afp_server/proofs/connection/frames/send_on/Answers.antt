use Rattle.std.proofs.Common.{ℕ, List, sym, subst, refl, inl}
use Rattle.afp_outside.specs.ends.Gate.{with_exited}
use Rattle.afp_outside.specs.ends.Whole.{Sends, SendsPart}
use Rattle.afp_server.specs.link.Progress.{point}
use Rattle.afp_server.specs.connection.Standing.{IsUnderWay}
use Rattle.afp_server.specs.connection.lemma.Begun.{LeavesSome}
use Rattle.afp_server.proofs.OfConnection.Turning.{left-on, in-turn-none, in-turn-from, in-turn-goes}
use Rattle.afp_server.proofs.connection.frames.send_on.Goals as goal

pub returns-in-Failed-clause-sends : goal.returns-in-Failed-clause-sends
returns-in-Failed-clause-sends g c = λ cost held requests.
    in-turn-none _ _ _ _ refl (λ start shown u. inl (u.unsent_ends (g.L.ReadyLink.link_state c.send_or_keep.new.link) (subst (λ (x : List ℕ). SendsPart (g.L.ReadyLink.link_state c.args.link.now) x (g.L.ReadyLink.link_state c.send_or_keep.new.link)) c.rest.ensures c.in-Failed.ensures)))

pub returns-in-Left-clause-sends : goal.returns-in-Left-clause-sends
returns-in-Left-clause-sends g c = λ cost held requests.
    in-turn-none _ _ _ _ refl (λ start shown u.
    let link = g.L.ReadyLink.link_state c.args.link.now in
    let mid = g.L.ReadyLink.link_state c.send_or_keep.new.link in
    let at : LeavesSome link c.args.unsent c.in-Left.left mid = subst (λ (x : List ℕ). LeavesSome link x c.in-Left.left mid) c.rest.ensures c.in-Left.ensures in
    subst (λ (x : List ℕ). IsUnderWay start cost c.args.then c.args.called x (point held c.args.session.now.stage requests mid shown (g.G.Gate.passed c.args.log.now))) (sym c.note_taken.ensures)
    (left-on start cost held c.args.session.now.stage requests link mid shown (g.G.Gate.passed c.args.log.now) c.args.then c.args.called c.args.unsent c.in-Left.left u at))

pub returns-in-None-clause-sends : goal.returns-in-None-clause-sends
returns-in-None-clause-sends g c = λ cost held requests.
    in-turn-from _ _ _ _ _
    (λ start shown u. u.sent (g.L.ReadyLink.link_state c.send_or_keep.new.link) (with_exited (g.G.Gate.passed c.args.log.now) c.args.called)
    (subst (λ (x : List ℕ). Sends (g.L.ReadyLink.link_state c.args.link.now) x 0 (g.L.ReadyLink.link_state c.send_or_keep.new.link)) c.rest.ensures c.in-All.ensures) refl)
    (c.in-None.ensures.finishes cost held requests)

pub returns-clause-sends : goal.returns-clause-sends
returns-clause-sends g c = λ cost held requests.
    in-turn-goes _ _ _ _ _
    (in-turn-from _ _ _ _ _
    (λ start shown u. u.sent (g.L.ReadyLink.link_state c.send_or_keep.new.link) (with_exited (g.G.Gate.passed c.args.log.now) c.args.called)
    (subst (λ (x : List ℕ). Sends (g.L.ReadyLink.link_state c.args.link.now) x 0 (g.L.ReadyLink.link_state c.send_or_keep.new.link)) c.rest.ensures c.in-All.ensures) refl)
    (c.in-Some.ensures.finishes cost held requests))
    (λ start shown e. inl e)
