use Rattle.std.proofs.Common.{[], ◌∷◌, refl, ap, ◌∙◌}
use Rattle.afp_serial.specs.Answered.{told_of}
use Rattle.afp_serial.specs.declared.ask.Told.{Told}
use Rattle.afp_serial.specs.declared.ask.Ask.TheVariants as asks
use Rattle.afp_serial.specs.Went.{step}
use Rattle.afp_serial.proofs.Grows.{went-one}
use Rattle.afp_server.specs.link.CloseSession.{closes}
use Rattle.afp_server.specs.link.Did.{Did}
use Rattle.afp_server.specs.link.lemma.SessionState.{SessionState}
use Rattle.afp_server.proofs.OfLink.Rows.{acts-asks}
use Rattle.afp_server.proofs.link.session.LinkSession.close_session.Goals as goal

pub returns-clause-closes : goal.returns-clause-closes
returns-clause-closes g c =
    let told : Told = told_of c.ask_bare-answered.result [] in
    let did : Did = closes (step c.args.now c.args.link asks.Bye told ∷ []) in (
      did,
      record { answer = told; is = refl },
      acts-asks c.args.self.now c.close.new.self _ _ did (ap (λ (s : SessionState). s.block) c.close.ensures ∙ ap (λ (s : SessionState). s.block) c.note.ensures) (ap (λ (s : SessionState). s.stage) c.close.ensures)
          (ap (λ (s : SessionState). s.reply) c.close.ensures ∙ ap (λ (s : SessionState). s.reply) c.note.ensures ∙ c.requires.no_reply) (ap (λ (s : SessionState). s.tally) c.close.ensures ∙ ap (λ (s : SessionState). s.tally) c.note.ensures) (went-one _ _ c.args.now c.args.link asks.Bye told c.ask_bare-answered.ensures.asked),
      refl,
    )
