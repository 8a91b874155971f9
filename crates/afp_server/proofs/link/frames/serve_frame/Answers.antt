use Rattle.std.proofs.Common.{ℕ, sym, ap, ◌∙◌}
use Rattle.std.specs.Prelude.{Option}
use Rattle.afp_base.specs.declared.ids.LinkNumber.{LinkNumber}
use Rattle.afp_outside.specs.ends.Gate.{with_entered}
use Rattle.dsi_frame.specs.Frame.{frame_of}
use Rattle.dsi_frame.specs.declared.frame.Header.{Header}
use Rattle.dsi_frame.proofs.FrameLemmas.{frame_of-header_of}
use Rattle.afp_server.specs.link.LinkRun.{carries_call}
use Rattle.afp_server.specs.link.lemma.Requesting.{after_bytes}
use Rattle.afp_server.specs.link.Progress.{point}
use Rattle.afp_server.proofs.OfLink.FrameSteps.{next, frame-goes_on, frame-less, frame-ends, frame-unwritten}
use Rattle.afp_server.proofs.OfLink.Passing.{called-is}
use Rattle.afp_server.proofs.OfLink.Serving.{ends-uncopied}
use Rattle.afp_server.proofs.link.frames.serve_frame.Goals as goal

pub returns-then-not-send_all-clause-serves : goal.returns-then-not-send_all-clause-serves
returns-then-not-send_all-clause-serves g c = λ start cost block s.
    let w = c.requires.whole in
    let h = c.in-Ok.ensures.handles in
    let call = called-is c.args.header.now w.0 c.args.session.now.stage w.2 in
    frame-unwritten start cost c.args.deframer.now c.args.requests.now (g.L.Link.link_state c.args.link.now) (g.L.Link.link_state c.send_all.new.link) c.args.session.now c.handle.new.self _ _ w.0 h.0 c.reply-reply.result.now
    (g.G.Gate.passed c.args.log.now) (g.G.Gate.passed c.handle.new.log) _
    (next start cost c.args.deframer.now c.args.requests.now (g.L.Link.link_state c.args.link.now) c.args.session.now c.handle.new.self _ _ w.0 (frame_of c.args.header.now c.payload.result.now) h.0 c.now-now.result _ block s w.1
    (frame_of-header_of c.args.header.now c.payload.result.now w.0 w.2 (c.payload.ensures w.0 w.1)) c.now-now.ensures h.1 h.2)
    call c.in-Ok.ensures.passes c.reply-reply.ensures c.if-not-send_all.ensures

pub returns-in-None-clause-less : goal.returns-in-None-clause-less
returns-in-None-clause-less g c = frame-less c.args.deframer.now c.advance.new.self c.requires.whole.0 c.requires.whole.1 c.advance.ensures

pub returns-in-None-clause-serves : goal.returns-in-None-clause-serves
returns-in-None-clause-serves g c = λ start cost block s.
    let w = c.requires.whole in
    let h = c.in-Ok.ensures.handles in
    let call = c.called_link-called.ensures ∙ called-is c.args.header.now w.0 c.args.session.now.stage w.2 in
    let passes = c.in-Ok.ensures.passes in
    frame-goes_on start cost c.args.deframer.now c.advance.new.self c.args.requests.now c.note_reply.new.self (g.L.Link.link_state c.args.link.now) (g.L.Link.link_state c.send_all.new.link) c.args.session.now c.handle.new.self _ _ w.0 h.0 c.reply-reply.result.now
    (g.G.Gate.passed c.args.log.now) (g.G.Gate.passed c.handle.new.log) (g.G.Gate.passed c.exit_gate.new.log) c.called_link-called.result
    (next start cost c.args.deframer.now c.args.requests.now (g.L.Link.link_state c.args.link.now) c.args.session.now c.handle.new.self _ _ w.0 (frame_of c.args.header.now c.payload.result.now) h.0 c.now-now.result _ block s w.1
    (frame_of-header_of c.args.header.now c.payload.result.now w.0 w.2 (c.payload.ensures w.0 w.1)) c.now-now.ensures h.1 h.2)
    call (passes ∙ ap (λ (o : Option LinkNumber). with_entered (g.G.Gate.passed c.args.log.now) o) (sym c.called_link-called.ensures)) c.exit_gate.ensures
    c.reply-reply.ensures (c.note_reply.ensures ∙ ap (λ (n : ℕ). after_bytes n c.reply-reply.result.now c.args.requests.now) c.now-now.ensures) c.if-not-send_all.ensures (sym h.3 ∙ c.in-None.is) c.advance.ensures

pub returns-in-Some-clause-serves : goal.returns-in-Some-clause-serves
returns-in-Some-clause-serves g c = λ start cost block s.
    let w = c.requires.whole in
    let h = c.in-Ok.ensures.handles in
    let call = c.called_link-called.ensures ∙ called-is c.args.header.now w.0 c.args.session.now.stage w.2 in
    let passes = c.in-Ok.ensures.passes in
    frame-ends start cost c.args.deframer.now c.args.requests.now (g.L.Link.link_state c.args.link.now) (g.L.Link.link_state c.send_all.new.link) c.args.session.now c.handle.new.self _ _ w.0 h.0 c.reply-reply.result.now c.in-Some.end c.place.result c.link_end.result
    (g.G.Gate.passed c.args.log.now) (g.G.Gate.passed c.handle.new.log) (g.G.Gate.passed c.exit_gate.new.log) c.called_link-called.result
    (next start cost c.args.deframer.now c.args.requests.now (g.L.Link.link_state c.args.link.now) c.args.session.now c.handle.new.self _ _ w.0 (frame_of c.args.header.now c.payload.result.now) h.0 c.now-now.result _ block s w.1
    (frame_of-header_of c.args.header.now c.payload.result.now w.0 w.2 (c.payload.ensures w.0 w.1)) c.now-now.ensures h.1 h.2)
    call (passes ∙ ap (λ (o : Option LinkNumber). with_entered (g.G.Gate.passed c.args.log.now) o) (sym c.called_link-called.ensures)) c.exit_gate.ensures
    c.reply-reply.ensures c.if-not-send_all.ensures (sym h.3 ∙ c.in-Some.is) c.place.ensures.place c.link_end.ensures

pub returns-in_default-clause-serves : goal.returns-in_default-clause-serves
returns-in_default-clause-serves g c = λ start cost block s.
    let w = c.requires.whole in
    let h = c.in_default.ensures.handles in
    let same = ap (λ (k : Header). k.reply) w.2 in
    let carried = ap (λ (k : Header). carries_call k.command) w.2 in
    ends-uncopied start (point c.args.deframer.now c.args.session.now.stage c.args.requests.now (g.L.Link.link_state c.args.link.now) (g.T.Teller.shown c.args.teller.now) (g.G.Gate.passed c.args.log.now)) cost
    w.0 h.0 c.handle.new.self.stage (g.T.Teller.shown c.handle.new.teller) (g.G.Gate.passed c.handle.new.log) s w.1
    (sym same ∙ h.2) (sym carried ∙ h.3) h.1 h.4 h.6 c.in_default.ensures.passes
