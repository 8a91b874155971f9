use Rattle.dsi_frame.specs.Frame.{frame_of}
use Rattle.dsi_frame.proofs.FrameLemmas.{frame_of-header_of}
use Rattle.afp_client.proofs.OfSession.TakingLemmas.{meets-bad, not_none, takes-next}
use Rattle.afp_client.proofs.session.client.take_whole.Goals as goal

pub returns-in-Ok-None-clause-happens : goal.returns-in-Ok-None-clause-happens
returns-in-Ok-None-clause-happens c =
    let f = c.requires.whole.0 in
    let begins = c.requires.whole.1 in
    meets-bad (record { state = c.args.machine.now; held = c.args.deframer.now }) c.args.out.now c.place.result c.take.new.self c.take.new.out f (frame_of c.args.header.now c.payload.result.now)
    (frame_of-header_of c.args.header.now c.payload.result.now f c.requires.whole.2 (c.payload.ensures f begins)) begins c.requires.live c.place.ensures.place
    (rw c.in-Ok-None.field-0-is at c.in-Ok-None.ensures)

pub returns-in-Ok-Some-clause-happens : goal.returns-in-Ok-Some-clause-happens
returns-in-Ok-Some-clause-happens c =
    let f = c.requires.whole.0 in
    let begins = c.requires.whole.1 in
    takes-next (record { state = c.args.machine.now; held = c.args.deframer.now }) c.args.out.now c.in-Ok-Some.event c.take.new.self c.advance.new.self c.take.new.out f (frame_of c.args.header.now c.payload.result.now)
    (frame_of-header_of c.args.header.now c.payload.result.now f c.requires.whole.2 (c.payload.ensures f begins)) begins c.requires.live
    (rw c.in-Ok-Some.field-0-is at c.in-Ok-Some.ensures)
    (c.advance.ensures f begins.first begins.more begins.spelling begins.whole)

pub returns-in-Ok-Some-clause-some : goal.returns-in-Ok-Some-clause-some
returns-in-Ok-Some-clause-some c =
    let h = rw c.in-Ok-Some.field-0-is at c.in-Ok-Some.ensures in
    not_none c.args.machine.now c.args.out.now _ c.in-Ok-Some.event c.take.new.self c.take.new.out h.2
