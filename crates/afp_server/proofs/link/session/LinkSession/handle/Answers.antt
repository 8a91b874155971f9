use Rattle.std.proofs.Common.{Bool, [], refl, ap, ◌∙◌}
use Rattle.std.specs.Prelude.{None}
use Rattle.dsi_frame.specs.Frame.{Frame, frame_of}
use Rattle.afp_server.specs.link.Did.{Did}
use Rattle.afp_server.specs.link.lemma.Passing.{call_link}
use Rattle.afp_server.specs.link.lemma.SessionState.{SessionState}
use Rattle.afp_server.proofs.OfLink.Passing.{not_called, unpassed}
use Rattle.afp_server.proofs.OfLink.Rows.{acts-still, does-reply}
use Rattle.afp_server.proofs.link.session.LinkSession.handle.Goals as goal

pub returns-then-header-clause-handles : goal.returns-then-header-clause-handles
returns-then-header-clause-handles g c =
    let f : Frame = frame_of c.args.header.now c.args.payload.now in
    let did : Did = record { steps = []; reply = None; stage = c.args.self.now.stage; end = c.reply_end.result } in (
      did,
      does-reply c.args.self.now.block c.args.now c.args.self.now.stage f did c.requires c.if-header.true (c.reply_end.ensures c.args.self.now.stage),
      acts-still c.args.self.now _ (g.T.Teller.shown c.args.teller.now) did (ap (λ (s : SessionState). s.block) c.self.view_is) (ap (λ (s : SessionState). s.stage) c.self.view_is) refl (ap (λ (s : SessionState). s.tally) c.self.view_is) refl refl,
      refl,
    )

pub returns-then-header-clause-passes : goal.returns-then-header-clause-passes
returns-then-header-clause-passes g c =
    unpassed (g.G.Gate.passed c.args.log.now) _ (ap (λ (reply : Bool). call_link reply c.args.self.now.stage c.args.header.now.command) c.if-header.true)

pub returns-in_default-clause-passes : goal.returns-in_default-clause-passes
returns-in_default-clause-passes g c =
    unpassed (g.G.Gate.passed c.args.log.now) _
    (not_called c.args.header.now.reply c.args.self.now.stage c.args.header.now.command (λ link e. c.in_default.not-Open link (ap (λ (s : SessionState). s.stage) c.self.view_is ∙ e)))
