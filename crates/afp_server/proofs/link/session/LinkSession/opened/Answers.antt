use Rattle.std.proofs.Common.{List, ℕ, [], take, drop, refl, ap, ◌∙◌}
use Rattle.dsi_frame.specs.Frame.{frame_of}
use Rattle.afp_base.specs.declared.code.Code.TheVariants as code
use Rattle.dsi_frame.specs.Replies.{code_word}
use Rattle.afp_serial.specs.declared.answered.Answered.{Answered}
use Rattle.afp_server.specs.link.lemma.SessionState.{SessionState, told_in}
use Rattle.afp_server.specs.link.Tally.{and_reply}
use Rattle.afp_server.proofs.OfLink.Rows.{opened-session, opened-refused, opened-memory}
use Rattle.afp_server.proofs.link.session.LinkSession.opened.Goals as goal

pub returns-in-Opened-clause-opened : goal.returns-in-Opened-clause-opened
returns-in-Opened-clause-opened c =
    opened-session (frame_of c.args.request.now []) (told_in c.args.answered c.args.self.now) c.in-Opened.link c.option_bytes.result c.args.self.now.tally c.answer.new.self (ap (λ (a : Answered). told_in a c.args.self.now) c.in-Opened.is) c.option_bytes.ensures
    (ap (λ (s : SessionState). s.stage) c.answer.ensures) (ap (λ (s : SessionState). s.reply) c.answer.ensures)
    (ap (λ (s : SessionState). s.tally) c.answer.ensures ∙ ap (λ (s : SessionState). and_reply (code_word code.Ok) s.tally) c.self.view_is)

pub returns-in-Reply-clause-opened : goal.returns-in-Reply-clause-opened
returns-in-Reply-clause-opened c =
    let block : List ℕ = take c.in-Reply.size (drop 16 c.args.self.now.reply) in
    opened-refused (frame_of c.args.request.now []) (told_in c.args.answered c.args.self.now) c.in-Reply.code block block c.in-Reply.ends c.args.self.now.tally c.answer_told.new.self (ap (λ (a : Answered). told_in a c.args.self.now) c.in-Reply.is) refl
    (ap (λ (s : SessionState). s.stage) c.answer_told.ensures ∙ c.requires.fresh) (ap (λ (s : SessionState). s.reply) c.answer_told.ensures) (ap (λ (s : SessionState). s.tally) c.answer_told.ensures)

pub returns-in-Memory-clause-opened : goal.returns-in-Memory-clause-opened
returns-in-Memory-clause-opened c =
    opened-memory (frame_of c.args.request.now []) (told_in c.args.answered c.args.self.now) c.args.self.now.tally c.answer-in-Memory.new.self (ap (λ (a : Answered). told_in a c.args.self.now) c.in-Memory.is)
    (ap (λ (s : SessionState). s.stage) c.answer-in-Memory.ensures ∙ ap (λ (s : SessionState). s.stage) c.note_memory.ensures ∙ c.requires.fresh) (ap (λ (s : SessionState). s.reply) c.answer-in-Memory.ensures)
    (ap (λ (s : SessionState). s.tally) c.answer-in-Memory.ensures ∙ ap (λ (s : SessionState). and_reply (code_word code.NoMemory) s.tally) c.note_memory.ensures)
