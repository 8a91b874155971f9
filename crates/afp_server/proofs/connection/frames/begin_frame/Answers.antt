use Rattle.std.proofs.Common.{ℕ, List, ◌++◌, refl, sym, ap, ◌∙◌, subst, append-nil, inl, []}
use Rattle.std.specs.Prelude.{Option, None, Some}
use Rattle.afp_base.specs.declared.ids.LinkNumber.{LinkNumber}
use Rattle.afp_outside.specs.ends.Gate.{with_entered}
use Rattle.dsi_frame.specs.Frame.{frame_of}
use Rattle.dsi_frame.specs.declared.frame.Header.{Header}
use Rattle.dsi_frame.proofs.FrameLemmas.{frame_of-header_of}
use Rattle.afp_serial.specs.Shown.{Shown}
use Rattle.afp_server.specs.link.LinkRun.{carries_call}
use Rattle.afp_server.specs.declared.link.serve.LinkEnd.{LinkEnd}
use Rattle.afp_server.specs.declared.link.serve.LinkEnd.TheVariants as links
use Rattle.afp_server.specs.link.lemma.Requesting.{after_bytes}
use Rattle.afp_server.specs.link.lemma.Serving.{ServesFrame}
use Rattle.afp_server.specs.link.Progress.{point, Ended}
use Rattle.afp_server.specs.connection.Turn.{shown_to}
use Rattle.afp_server.specs.connection.Standing.{IsUnderWay}
use Rattle.afp_server.specs.declared.connection.standing.Then.{Then}
use Rattle.afp_server.proofs.OfLink.FrameSteps.{next, frame-less, frame-unwritten}
use Rattle.afp_server.proofs.OfLink.Passing.{called-is}
use Rattle.afp_server.proofs.OfLink.Serving.{ends-uncopied}
use Rattle.afp_server.proofs.OfConnection.Turning.{went-still, live-left, acts-own, same-turn, whole-reply, left-reply}
use Rattle.afp_server.proofs.connection.frames.begin_frame.Goals as goal

pub returns-in_default-clause-begins : goal.returns-in_default-clause-begins
returns-in_default-clause-begins g c =
    let w = c.requires.whole in
    let h = c.in_default.ensures.handles in
    let same = ap (λ (k : Header). k.reply) w.2 in
    let carried = ap (λ (k : Header). carries_call k.command) w.2 in
    λ turns cost. record {
      steps = [];
      went = went-still (g.T.Teller.shown c.args.teller.now) (g.T.Teller.shown c.handle.new.teller) h.6;
      places = [];
      mine = ap (λ (s : Shown). s.mine) h.6 ∙ sym (append-nil (g.T.Teller.shown c.args.teller.now).mine);
      comes = λ start own here. (
        here.0,
        inl (ends-uncopied start (point c.args.deframer.now c.args.session.now.stage c.args.requests.now (g.L.ReadyLink.link_state c.args.link.now) (shown_to own (g.T.Teller.shown c.args.teller.now)) (g.G.Gate.passed c.args.log.now)) cost
            w.0 h.0 c.handle.new.self.stage (shown_to (own ++ []) (g.T.Teller.shown c.handle.new.teller)) (g.G.Gate.passed c.handle.new.log) here.1 w.1
            (sym same ∙ h.2) (sym carried ∙ h.3) h.1 h.4 (same-turn own (g.T.Teller.shown c.args.teller.now) (g.T.Teller.shown c.handle.new.teller) h.6) c.in_default.ensures.passes),
      );
    }

pub returns-in-Failed-clause-begins : goal.returns-in-Failed-clause-begins
returns-in-Failed-clause-begins g c =
    let w = c.requires.whole in
    let h = c.in-Ok.ensures.handles in
    let call = c.called_link-called.ensures ∙ called-is c.args.header.now w.0 c.args.session.now.stage w.2 in
    let enters = c.in-Ok.ensures.passes ∙ ap (λ (o : Option LinkNumber). with_entered (g.G.Gate.passed c.args.log.now) o) (sym c.called_link-called.ensures) in
    let noted = c.note_reply.ensures ∙ ap (λ (n : ℕ). after_bytes n c.reply-reply.result.now c.args.requests.now) c.now-now.ensures in
    let link = g.L.ReadyLink.link_state c.args.link.now in
    let then = g.L.ReadyLink.link_state c.send_or_keep.new.link in
    let before = g.T.Teller.shown c.args.teller.now in
    let after = g.T.Teller.shown c.handle.new.teller in
    let old = c.args.session.now in
    let new = c.handle.new.self in
    λ turns cost. record {
      steps = h.0.steps;
      went = h.2.went;
      places = h.2.went.places;
      mine = h.2.went.mine;
      comes = λ start own here.
          let n = next start cost c.args.deframer.now c.args.requests.now link old new (shown_to own before) (shown_to (own ++ h.2.went.places) after) w.0 (frame_of c.args.header.now c.payload.result.now) h.0 c.now-now.result (g.G.Gate.passed c.args.log.now) here.0.0 here.1 w.1
          (frame_of-header_of c.args.header.now c.payload.result.now w.0 w.2 (c.payload.ensures w.0 w.1)) c.now-now.ensures h.1 (acts-own old new before after h.0 own h.2) in
          (here.0, inl (frame-unwritten start cost c.args.deframer.now c.args.requests.now link then old new (shown_to own before) (shown_to (own ++ h.2.went.places) after) w.0 h.0 c.reply-reply.result.now (g.G.Gate.passed c.args.log.now) (g.G.Gate.passed c.handle.new.log) c.called_link-called.result n call enters c.reply-reply.ensures c.in-Failed.ensures));
    }

pub returns-in-Left-clause-begins : goal.returns-in-Left-clause-begins
returns-in-Left-clause-begins g c =
    let w = c.requires.whole in
    let h = c.in-Ok.ensures.handles in
    let call = c.called_link-called.ensures ∙ called-is c.args.header.now w.0 c.args.session.now.stage w.2 in
    let enters = c.in-Ok.ensures.passes ∙ ap (λ (o : Option LinkNumber). with_entered (g.G.Gate.passed c.args.log.now) o) (sym c.called_link-called.ensures) in
    let noted = c.note_reply.ensures ∙ ap (λ (n : ℕ). after_bytes n c.reply-reply.result.now c.args.requests.now) c.now-now.ensures in
    let link = g.L.ReadyLink.link_state c.args.link.now in
    let then = g.L.ReadyLink.link_state c.send_or_keep.new.link in
    let before = g.T.Teller.shown c.args.teller.now in
    let after = g.T.Teller.shown c.handle.new.teller in
    let old = c.args.session.now in
    let new = c.handle.new.self in
    λ turns cost. record {
      steps = h.0.steps;
      went = h.2.went;
      places = h.2.went.places;
      mine = h.2.went.mine;
      comes = λ start own here.
          let n = next start cost c.args.deframer.now c.args.requests.now link old new (shown_to own before) (shown_to (own ++ h.2.went.places) after) w.0 (frame_of c.args.header.now c.payload.result.now) h.0 c.now-now.result (g.G.Gate.passed c.args.log.now) here.0.0 here.1 w.1
          (frame_of-header_of c.args.header.now c.payload.result.now w.0 w.2 (c.payload.ensures w.0 w.1)) c.now-now.ensures h.1 (acts-own old new before after h.0 own h.2) in
          (here.0, subst (λ (t : Then). IsUnderWay start cost t c.called_link-called.result c.in-Left.unsent (point c.go_behind-end.new.deframer new.stage c.note_reply.new.self then (shown_to (own ++ h.2.went.places) after) (g.G.Gate.passed c.handle.new.log))) (sym c.then_of.ensures) (left-reply start cost c.args.deframer.now c.go_behind-end.new.deframer c.args.requests.now c.note_reply.new.self link then old new (shown_to own before) (shown_to (own ++ h.2.went.places) after) w.0 h.0 c.reply-reply.result.now c.in-Left.unsent (g.G.Gate.passed c.args.log.now) (g.G.Gate.passed c.handle.new.log) c.called_link-called.result c.in-Ok.end c.go_behind-end.result n call enters c.reply-reply.ensures noted c.in-Left.ensures h.3 c.go_behind-end.ensures.behind));
    }

pub returns-in-None-clause-begins : goal.returns-in-None-clause-begins
returns-in-None-clause-begins g c =
    let w = c.requires.whole in
    let h = c.in-Ok.ensures.handles in
    let call = c.called_link-called.ensures ∙ called-is c.args.header.now w.0 c.args.session.now.stage w.2 in
    let enters = c.in-Ok.ensures.passes ∙ ap (λ (o : Option LinkNumber). with_entered (g.G.Gate.passed c.args.log.now) o) (sym c.called_link-called.ensures) in
    let noted = c.note_reply.ensures ∙ ap (λ (n : ℕ). after_bytes n c.reply-reply.result.now c.args.requests.now) c.now-now.ensures in
    let link = g.L.ReadyLink.link_state c.args.link.now in
    let then = g.L.ReadyLink.link_state c.send_or_keep.new.link in
    let before = g.T.Teller.shown c.args.teller.now in
    let after = g.T.Teller.shown c.handle.new.teller in
    let old = c.args.session.now in
    let new = c.handle.new.self in
    λ turns cost. record {
      steps = h.0.steps;
      went = h.2.went;
      places = h.2.went.places;
      mine = h.2.went.mine;
      comes = λ start own here.
          let n = next start cost c.args.deframer.now c.args.requests.now link old new (shown_to own before) (shown_to (own ++ h.2.went.places) after) w.0 (frame_of c.args.header.now c.payload.result.now) h.0 c.now-now.result (g.G.Gate.passed c.args.log.now) here.0.0 here.1 w.1
          (frame_of-header_of c.args.header.now c.payload.result.now w.0 w.2 (c.payload.ensures w.0 w.1)) c.now-now.ensures h.1 (acts-own old new before after h.0 own h.2) in (
            here.0,
            subst (λ (o : Option LinkEnd). ServesFrame start cost o (point c.go_behind-end.new.deframer new.stage c.note_reply.new.self then (shown_to (own ++ h.2.went.places) after) (g.G.Gate.passed c.exit_gate.new.log))) c.in-None.is
                (whole-reply start cost c.args.deframer.now c.go_behind-end.new.deframer c.args.requests.now c.note_reply.new.self link then old new (shown_to own before) (shown_to (own ++ h.2.went.places) after) w.0 h.0 c.reply-reply.result.now (g.G.Gate.passed c.args.log.now) (g.G.Gate.passed c.handle.new.log) (g.G.Gate.passed c.exit_gate.new.log) c.called_link-called.result c.in-Ok.end c.go_behind-end.result n call enters c.exit_gate.ensures c.reply-reply.ensures noted c.in-All.ensures h.3 c.go_behind-end.ensures.behind),
          );
    }

pub returns-in-Some-clause-begins : goal.returns-in-Some-clause-begins
returns-in-Some-clause-begins g c =
    let w = c.requires.whole in
    let h = c.in-Ok.ensures.handles in
    let call = c.called_link-called.ensures ∙ called-is c.args.header.now w.0 c.args.session.now.stage w.2 in
    let enters = c.in-Ok.ensures.passes ∙ ap (λ (o : Option LinkNumber). with_entered (g.G.Gate.passed c.args.log.now) o) (sym c.called_link-called.ensures) in
    let noted = c.note_reply.ensures ∙ ap (λ (n : ℕ). after_bytes n c.reply-reply.result.now c.args.requests.now) c.now-now.ensures in
    let link = g.L.ReadyLink.link_state c.args.link.now in
    let then = g.L.ReadyLink.link_state c.send_or_keep.new.link in
    let before = g.T.Teller.shown c.args.teller.now in
    let after = g.T.Teller.shown c.handle.new.teller in
    let old = c.args.session.now in
    let new = c.handle.new.self in
    λ turns cost. record {
      steps = h.0.steps;
      went = h.2.went;
      places = h.2.went.places;
      mine = h.2.went.mine;
      comes = λ start own here.
          let n = next start cost c.args.deframer.now c.args.requests.now link old new (shown_to own before) (shown_to (own ++ h.2.went.places) after) w.0 (frame_of c.args.header.now c.payload.result.now) h.0 c.now-now.result (g.G.Gate.passed c.args.log.now) here.0.0 here.1 w.1
          (frame_of-header_of c.args.header.now c.payload.result.now w.0 w.2 (c.payload.ensures w.0 w.1)) c.now-now.ensures h.1 (acts-own old new before after h.0 own h.2) in (
            here.0,
            inl (subst (λ (o : Option LinkEnd). ServesFrame start cost o (point c.go_behind-end.new.deframer new.stage c.note_reply.new.self then (shown_to (own ++ h.2.went.places) after) (g.G.Gate.passed c.exit_gate.new.log))) c.in-Some.is
                (whole-reply start cost c.args.deframer.now c.go_behind-end.new.deframer c.args.requests.now c.note_reply.new.self link then old new (shown_to own before) (shown_to (own ++ h.2.went.places) after) w.0 h.0 c.reply-reply.result.now (g.G.Gate.passed c.args.log.now) (g.G.Gate.passed c.handle.new.log) (g.G.Gate.passed c.exit_gate.new.log) c.called_link-called.result c.in-Ok.end c.go_behind-end.result n call enters c.exit_gate.ensures c.reply-reply.ensures noted c.in-All.ensures h.3 c.go_behind-end.ensures.behind)),
          );
    }

pub returns-in-Left-clause-live : goal.returns-in-Left-clause-live
returns-in-Left-clause-live g c =
    live-left c.handle.new.self.stage c.args.deframer.now c.go_behind-end.new.deframer c.in-Ok.end c.go_behind-end.result c.then_of.result c.go_behind-end.ensures.behind c.in-Ok.ensures.live c.then_of.ensures
