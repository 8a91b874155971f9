use Rattle.std.proofs.Common.{[], refl, sym, ap, ◌∙◌, subst}
use Rattle.afp_base.specs.declared.code.Code.TheVariants as code
use Rattle.dsi_frame.specs.Frame.{Frame, frame_of}
use Rattle.dsi_frame.specs.declared.frame.DsiCommand.{DsiCommand}
use Rattle.dsi_frame.specs.declared.frame.Reason.TheVariants.{Phase, Unexpected}
use Rattle.afp_server.specs.link.CloseSession.{closes}
use Rattle.afp_server.specs.link.Did.{Did, nothing, is_bad}
use Rattle.afp_server.specs.link.GetStatus.{gets_status}
use Rattle.dsi_frame.specs.Replies.{reply_to}
use Rattle.afp_server.specs.link.Script.{FreshDoes}
use Rattle.afp_server.specs.link.lemma.SessionState.{SessionState}
use Rattle.afp_server.specs.declared.link.stage.Stage.TheVariants.{Fresh}
use Rattle.afp_server.proofs.OfLink.Rows.{acts-still, acts-replies}
use Rattle.afp_server.proofs.link.session.LinkSession.handle_fresh.Goals as goal

pub returns-in-GetStatus-clause-handles : goal.returns-in-GetStatus-clause-handles
returns-in-GetStatus-clause-handles g c =
    let f : Frame = frame_of c.args.header.now c.args.payload.now in
    let block = c.args.self.now.block in
    let did : Did = gets_status block Fresh f in (
      did,
      subst (λ (k : DsiCommand). FreshDoes block c.args.now k f did) (sym c.in-GetStatus.is) refl,
      acts-replies c.args.self.now c.get_status.new.self (g.T.Teller.shown c.args.teller.now) did (reply_to f code.Ok block) (ap (λ (s : SessionState). s.block) c.get_status.ensures.reply)
          (ap (λ (s : SessionState). s.stage) c.get_status.ensures.reply ∙ c.requires.fresh) (ap (λ (s : SessionState). s.reply) c.get_status.ensures.reply) (ap (λ (s : SessionState). s.tally) c.get_status.ensures.reply) refl refl,
      c.get_status.ensures.is,
    )

pub returns-in-CloseSession-clause-handles : goal.returns-in-CloseSession-clause-handles
returns-in-CloseSession-clause-handles g c =
    let f : Frame = frame_of c.args.header.now c.args.payload.now in
    let did : Did = closes [] in (
      did,
      subst (λ (k : DsiCommand). FreshDoes c.args.self.now.block c.args.now k f did) (sym c.in-CloseSession.is) refl,
      acts-still c.args.self.now c.close.new.self (g.T.Teller.shown c.args.teller.now) did (ap (λ (s : SessionState). s.block) c.close.ensures)
          (ap (λ (s : SessionState). s.stage) c.close.ensures) (ap (λ (s : SessionState). s.reply) c.close.ensures ∙ c.requires.no_reply) (ap (λ (s : SessionState). s.tally) c.close.ensures) refl refl,
      refl,
    )

pub returns-in-Command-clause-handles : goal.returns-in-Command-clause-handles
returns-in-Command-clause-handles g c =
    let f : Frame = frame_of c.args.header.now c.args.payload.now in
    let did : Did = is_bad Phase Fresh in (
      did,
      subst (λ (k : DsiCommand). FreshDoes c.args.self.now.block c.args.now k f did) (sym c.in-Command.is) refl,
      acts-still c.args.self.now c.args.self.now (g.T.Teller.shown c.args.teller.now) did refl c.requires.fresh c.requires.no_reply refl refl refl,
      refl,
    )

pub returns-in-Write-clause-handles : goal.returns-in-Write-clause-handles
returns-in-Write-clause-handles g c =
    let f : Frame = frame_of c.args.header.now c.args.payload.now in
    let did : Did = is_bad Phase Fresh in (
      did,
      subst (λ (k : DsiCommand). FreshDoes c.args.self.now.block c.args.now k f did) (sym c.in-Write.is) refl,
      acts-still c.args.self.now c.args.self.now (g.T.Teller.shown c.args.teller.now) did refl c.requires.fresh c.requires.no_reply refl refl refl,
      refl,
    )

pub returns-in-Tickle-clause-handles : goal.returns-in-Tickle-clause-handles
returns-in-Tickle-clause-handles g c =
    let f : Frame = frame_of c.args.header.now c.args.payload.now in
    let did : Did = nothing Fresh in (
      did,
      subst (λ (k : DsiCommand). FreshDoes c.args.self.now.block c.args.now k f did) (sym c.in-Tickle.is) refl,
      acts-still c.args.self.now c.args.self.now (g.T.Teller.shown c.args.teller.now) did refl c.requires.fresh c.requires.no_reply refl refl refl,
      refl,
    )

pub returns-in-Attention-clause-handles : goal.returns-in-Attention-clause-handles
returns-in-Attention-clause-handles g c =
    let f : Frame = frame_of c.args.header.now c.args.payload.now in
    let did : Did = is_bad Unexpected Fresh in (
      did,
      subst (λ (k : DsiCommand). FreshDoes c.args.self.now.block c.args.now k f did) (sym c.in-Attention.is) refl,
      acts-still c.args.self.now c.args.self.now (g.T.Teller.shown c.args.teller.now) did refl c.requires.fresh c.requires.no_reply refl refl refl,
      refl,
    )
