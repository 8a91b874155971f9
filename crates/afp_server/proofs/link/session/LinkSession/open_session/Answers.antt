use Rattle.std.proofs.Common.{[], ◌∷◌, ◌++◌, List, refl, ap, ◌∙◌, inl, inr, subst}
use Rattle.std.specs.Prelude.{Some, None}
use Rattle.afp_base.specs.declared.code.Code.TheVariants as code
use Rattle.afp_serial.specs.Answered.{told_of}
use Rattle.afp_serial.specs.declared.ask.Ask.{Ask}
use Rattle.afp_serial.specs.declared.ask.Told.{Told}
use Rattle.afp_serial.specs.declared.ask.Ask.TheVariants as asks
use Rattle.afp_serial.specs.Shown.{Asked}
use Rattle.afp_serial.specs.Went.{Step, step}
use Rattle.afp_serial.proofs.Grows.{went-one, went-join}
use Rattle.dsi_frame.specs.Frame.{Frame, frame_of}
use Rattle.dsi_session.specs.Options.{attention_of}
use Rattle.afp_server.specs.link.Did.{Did, replies}
use Rattle.afp_server.specs.link.OpenSession.{no_link}
use Rattle.dsi_frame.specs.Replies.{reply_to}
use Rattle.afp_server.specs.link.lemma.SessionState.{SessionState, told_in}
use Rattle.afp_server.specs.link.Tally.{and_reply, and_told}
use Rattle.afp_server.specs.declared.link.stage.Stage.TheVariants.{Fresh}
use Rattle.afp_server.proofs.OfLink.Rows.{acts-asks, acts-replies, open-told, replied}
use Rattle.afp_server.proofs.link.session.LinkSession.open_session.Goals as goal

pub opened-requires-clause-told : goal.opened-requires-clause-told
opened-requires-clause-told g c = open-told c.in-Ok.options.attention c.open_of.result (told_in c.ask-answered.result c.ask-answered.new.self) c.open_of.ensures c.ask-answered.ensures.answers

pub returns-in-Ok-clause-opens : goal.returns-in-Ok-clause-opens
returns-in-Ok-clause-opens g c =
    let read = c.in-Ok.ensures.options in
    let o = c.opened.ensures.opened in
    let kept = c.ask-answered.ensures.rest in
    let noted = c.note.ensures in
    let pulsed : Told = told_of c.ask_bare-pulsed.result [] in
    let told : Told = told_in c.ask-answered.result c.ask-answered.new.self in
    let asked : Ask = asks.Open (attention_of read.0) in
    let one : List Step = step c.args.now no_link asks.Pulse pulsed ∷ [] in
    let two : List Step = step c.args.now no_link asked told ∷ [] in
    let did : Did = record { steps = one ++ two; reply = Some o.0; stage = c.opened.new.self.stage; end = None } in
    let a = g.T.Teller.shown c.args.teller.now in
    let m = g.T.Teller.shown c.ask_bare-pulsed.new.teller in
    let b = g.T.Teller.shown c.ask-answered.new.teller in (
      did,
      inl record { options = read.0; fit = read.1; pulsed = pulsed; opened = told; steps = refl; answer = o.1; end = refl },
      acts-asks c.args.self.now c.opened.new.self a b did (c.opened.ensures.block ∙ ap (λ (s : SessionState). s.block) kept ∙ ap (λ (s : SessionState). s.block) noted) refl (o.2 ∙ replied o.0 (Some o.0) refl)
          (o.3 ∙ ap (λ (s : SessionState). and_reply o.0.word (record s.tally { answered = and_told told s.tally.answered })) (kept ∙ ap (λ (s : SessionState). record s { reply = c.ask-answered.new.self.reply }) noted))
          (went-join a m b one two (went-one a m c.args.now no_link asks.Pulse pulsed c.ask_bare-pulsed.ensures.asked)
          (went-one m b c.args.now no_link asked told
          (subst (λ (q : Ask). Asked m c.args.now no_link q told b) (c.open_of.ensures ∙ ap asks.Open read.2) c.ask-answered.ensures.asked))),
      refl,
    )

pub returns-in-Err-clause-opens : goal.returns-in-Err-clause-opens
returns-in-Err-clause-opens g c =
    let f : Frame = frame_of c.args.request.now c.args.payload.now in
    let stops = c.in-Err.ensures.bad in
    let did : Did = replies (reply_to f code.ParamErr []) Fresh in (
      did,
      inr record { options = stops.0; at = c.in-Err.field-0.at; stops = stops.1; is = refl },
      acts-replies c.args.self.now c.answer.new.self (g.T.Teller.shown c.args.teller.now) did (reply_to f code.ParamErr [])
          (ap (λ (s : SessionState). s.block) c.answer.ensures) (ap (λ (s : SessionState). s.stage) c.answer.ensures ∙ c.requires.fresh) (ap (λ (s : SessionState). s.reply) c.answer.ensures) (ap (λ (s : SessionState). s.tally) c.answer.ensures) refl refl,
      refl,
    )
