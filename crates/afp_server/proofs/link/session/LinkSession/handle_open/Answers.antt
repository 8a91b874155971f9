use Rattle.std.proofs.Common.{refl, sym, ap, ◌∙◌, subst}
use Rattle.afp_base.specs.declared.code.Code.TheVariants as code
use Rattle.dsi_frame.specs.Frame.{Frame, frame_of}
use Rattle.dsi_frame.specs.declared.frame.DsiCommand.{DsiCommand}
use Rattle.dsi_frame.specs.declared.frame.Reason.TheVariants.{Phase, Unexpected}
use Rattle.afp_server.specs.link.Did.{Did, nothing, is_bad}
use Rattle.afp_server.specs.link.GetStatus.{gets_status}
use Rattle.dsi_frame.specs.Replies.{reply_to}
use Rattle.afp_server.specs.link.Script.{OpenDoes}
use Rattle.afp_server.specs.link.lemma.SessionState.{SessionState}
use Rattle.afp_server.specs.declared.link.stage.Stage.TheVariants.{Open}
use Rattle.afp_server.proofs.OfLink.Rows.{acts-still, acts-replies}
use Rattle.afp_server.proofs.link.session.LinkSession.handle_open.Goals as goal

pub returns-in-GetStatus-clause-handles : goal.returns-in-GetStatus-clause-handles
returns-in-GetStatus-clause-handles g c =
    let f : Frame = frame_of c.args.header.now c.args.payload.now in
    let block = c.args.self.now.block in
    let did : Did = gets_status block (Open c.args.link) f in (
      did,
      subst (λ (k : DsiCommand). OpenDoes block c.args.now c.args.link k f did) (sym c.in-GetStatus.is) refl,
      acts-replies c.args.self.now c.get_status.new.self (g.T.Teller.shown c.args.teller.now) did (reply_to f code.Ok block) (ap (λ (s : SessionState). s.block) c.get_status.ensures.reply)
          (ap (λ (s : SessionState). s.stage) c.get_status.ensures.reply ∙ c.requires.session) (ap (λ (s : SessionState). s.reply) c.get_status.ensures.reply) (ap (λ (s : SessionState). s.tally) c.get_status.ensures.reply) refl refl,
      c.get_status.ensures.is,
    )

pub returns-in-OpenSession-clause-handles : goal.returns-in-OpenSession-clause-handles
returns-in-OpenSession-clause-handles g c =
    let f : Frame = frame_of c.args.header.now c.args.payload.now in
    let did : Did = is_bad Phase (Open c.args.link) in (
      did,
      subst (λ (k : DsiCommand). OpenDoes c.args.self.now.block c.args.now c.args.link k f did) (sym c.in-OpenSession.is) refl,
      acts-still c.args.self.now c.args.self.now (g.T.Teller.shown c.args.teller.now) did refl c.requires.session c.requires.no_reply refl refl refl,
      refl,
    )

pub returns-in-Tickle-clause-handles : goal.returns-in-Tickle-clause-handles
returns-in-Tickle-clause-handles g c =
    let f : Frame = frame_of c.args.header.now c.args.payload.now in
    let did : Did = nothing (Open c.args.link) in (
      did,
      subst (λ (k : DsiCommand). OpenDoes c.args.self.now.block c.args.now c.args.link k f did) (sym c.in-Tickle.is) refl,
      acts-still c.args.self.now c.args.self.now (g.T.Teller.shown c.args.teller.now) did refl c.requires.session c.requires.no_reply refl refl refl,
      refl,
    )

pub returns-in-Attention-clause-handles : goal.returns-in-Attention-clause-handles
returns-in-Attention-clause-handles g c =
    let f : Frame = frame_of c.args.header.now c.args.payload.now in
    let did : Did = is_bad Unexpected (Open c.args.link) in (
      did,
      subst (λ (k : DsiCommand). OpenDoes c.args.self.now.block c.args.now c.args.link k f did) (sym c.in-Attention.is) refl,
      acts-still c.args.self.now c.args.self.now (g.T.Teller.shown c.args.teller.now) did refl c.requires.session c.requires.no_reply refl refl refl,
      refl,
    )
