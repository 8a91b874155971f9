use Rattle.std.proofs.Common.{ap, ◌∙◌}
use Rattle.dsi_frame.specs.Frame.{frame_of}
use Rattle.dsi_frame.proofs.FrameLemmas.{frame_of-header_of}
use Rattle.dsi_frame.proofs.StreamLemmas.{advanced-end, advanced-shorter}
use Rattle.afp_server.specs.link.lemma.Feeding.{end_of_frame}
use Rattle.afp_server.proofs.OfLink.WireLemmas.{next-goes_on, next-ends}
use Rattle.afp_server.proofs.link.wire.handle_frame.Goals as goal

pub returns-in-Ok-None-clause-less : goal.returns-in-Ok-None-clause-less
returns-in-Ok-None-clause-less g c =
    let begins = c.requires.whole.1 in
    advanced-shorter c.args.deframer.now c.advance.new.self c.requires.whole.0 begins
    (c.advance.ensures c.requires.whole.0 begins.first begins.more begins.spelling begins.whole)

pub returns-in-Ok-None-clause-total : goal.returns-in-Ok-None-clause-total
returns-in-Ok-None-clause-total g c =
    let begins = c.requires.whole.1 in
    advanced-end c.args.deframer.now c.advance.new.self c.requires.whole.0 begins
    (c.advance.ensures c.requires.whole.0 begins.first begins.more begins.spelling begins.whole)

pub returns-in-Ok-None-clause-feeds : goal.returns-in-Ok-None-clause-feeds
returns-in-Ok-None-clause-feeds g c = λ start bytes block moment s.
    let f = c.requires.whole.0 in
    let begins = c.requires.whole.1 in
    next-goes_on start bytes c.args.deframer.now c.advance.new.self c.args.now f (frame_of c.args.header.now c.payload.result.now) c.args.session.now c.answer.new.session c.args.out.now c.answer.new.out
    (g.T.Teller.shown c.args.teller.now) (g.T.Teller.shown c.answer.new.teller) block moment s begins
    (frame_of-header_of c.args.header.now c.payload.result.now f c.requires.whole.2 (c.payload.ensures f begins))
    (rw c.in-Ok-None.field-0-is at c.in-Ok-None.ensures.answers)
    (c.advance.ensures f begins.first begins.more begins.spelling begins.whole)

pub returns-in-Ok-Some-clause-feeds : goal.returns-in-Ok-Some-clause-feeds
returns-in-Ok-Some-clause-feeds g c = λ start bytes block moment s.
    let f = c.requires.whole.0 in
    let begins = c.requires.whole.1 in
    next-ends start bytes c.args.deframer.now c.args.now f (frame_of c.args.header.now c.payload.result.now) c.args.session.now c.answer.new.session c.args.out.now c.answer.new.out
    (g.T.Teller.shown c.args.teller.now) (g.T.Teller.shown c.answer.new.teller) c.in-Ok-Some.end c.wire_end.result block moment s begins
    (frame_of-header_of c.args.header.now c.payload.result.now f c.requires.whole.2 (c.payload.ensures f begins))
    (rw c.in-Ok-Some.field-0-is at c.in-Ok-Some.ensures.answers)
    (c.wire_end.ensures ∙ ap (λ n. end_of_frame c.in-Ok-Some.end n) c.place.ensures.place)
