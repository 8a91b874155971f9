use Rattle.std.proofs.Common.{[], ◌∷◌, refl, ap, ◌∙◌}
use Rattle.afp_serial.specs.Went.{step}
use Rattle.afp_serial.specs.declared.ask.Told.{Told}
use Rattle.afp_serial.proofs.Grows.{went-one}
use Rattle.afp_server.specs.link.Did.{Did}
use Rattle.afp_server.specs.link.lemma.SessionState.{SessionState, told_in}
use Rattle.dsi_frame.specs.Replies.{listed}
use Rattle.afp_server.specs.link.Tally.{tallied}
use Rattle.afp_server.proofs.OfLink.Rows.{acts-asks, call-told}
use Rattle.afp_server.proofs.link.session.LinkSession.call.Goals as goal

pub called-requires-clause-told : goal.called-requires-clause-told
called-requires-clause-told g c = call-told c.args.ask (told_in c.ask-answered.result c.ask-answered.new.self) c.requires.call c.ask-answered.ensures.answers

pub returns-clause-calls : goal.returns-clause-calls
returns-clause-calls g c =
    let k = c.called.ensures.called in
    let rest = c.ask-answered.ensures.rest in
    let told : Told = told_in c.ask-answered.result c.ask-answered.new.self in
    let did : Did = record { steps = step c.args.now c.args.link c.args.ask told ∷ []; reply = k.0; stage = c.called.new.self.stage; end = c.called.result } in (
      did,
      record { answer = told; steps = refl; told = k.1.called c.args.link (ap (λ (s : SessionState). s.stage) rest ∙ c.requires.session) },
      acts-asks c.args.self.now c.called.new.self _ _ did (k.1.block ∙ ap (λ (s : SessionState). s.block) rest) refl k.1.replied
          (k.1.tally ∙ ap (λ (s : SessionState). tallied s.tally did.steps (listed did.reply)) rest) (went-one _ _ c.args.now c.args.link c.args.ask told c.ask-answered.ensures.asked),
      refl,
    )
