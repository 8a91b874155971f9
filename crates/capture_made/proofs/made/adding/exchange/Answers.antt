use Rattle.capture_made.proofs.OfMade.AddingLemmas.{exchanged-one, on_ok_with}
use Rattle.capture_made.proofs.made.adding.exchange.Goals as goal

pub returns-clause-exchanged : goal.returns-clause-exchanged
returns-clause-exchanged g c =
    on_ok_with c.add_reply.result _ _
    (λ x s is.
    let a = c.in_ok-add_request.ensures.adds s is in
    exchanged-one s c.args.request.now c.args.text.now c.add_request.new.text c.add_reply.new.text c.add_request.new.capture c.add_reply.new.capture a (x a.after a.is))
    c.add_reply.ensures.adds
