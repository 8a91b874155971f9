use Rattle.capture_made.proofs.OfMade.AddingLemmas.{exchanged-join, on_ok_with}
use Rattle.capture_made.proofs.made.adding.add_connection.Goals as goal

pub returns-clause-exchanged : goal.returns-clause-exchanged
returns-clause-exchanged g c =
    on_ok_with c.add_open_volume.result _ _
    (λ x s is.
    let a = c.in_ok-add_open_session.ensures.exchanged s is in
    let b = c.in_ok-add_login.ensures.exchanged a.after a.is in
    let d = x b.after b.is in
    exchanged-join s _ _ _ _ _ _ _ a (exchanged-join a.after _ _ _ _ _ _ _ b d))
    c.add_open_volume.ensures.exchanged
