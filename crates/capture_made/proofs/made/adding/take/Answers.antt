use Rattle.capture_made.proofs.OfMade.AddingLemmas.{takes-none}
use Rattle.capture_made.proofs.made.adding.take.Goals as goal

pub returns-in-None-clause-takes : goal.returns-in-None-clause-takes
returns-in-None-clause-takes g c = takes-none c.args.capture.now c.take.new.self _ c.args.line.now c.in_ok-take.field-0 c.in_ok-take.ensures c.in-None.is

pub returns-in-None-clause-stands : goal.returns-in-None-clause-stands
returns-in-None-clause-stands g c =
    let t = takes-none c.args.capture.now c.take.new.self _ c.args.line.now c.in_ok-take.field-0 c.in_ok-take.ensures c.in-None.is c.requires.0 c.requires.1 in
    (t.after, t.is)
