use Rattle.std.proofs.Common.{List, ℕ, [], take, drop, refl, ap, ◌∙◌}
use Rattle.afp_base.specs.declared.code.Code.TheVariants as code
use Rattle.dsi_frame.specs.Frame.{canonical_frame, frame_of}
use Rattle.dsi_frame.specs.Replies.{code_word, reply_to}
use Rattle.afp_server.specs.link.Tally.{and_reply}
use Rattle.afp_serial.specs.declared.answered.Answered.{Answered}
use Rattle.afp_server.specs.link.lemma.SessionState.{SessionState, told_in}
use Rattle.afp_server.proofs.OfLink.Rows.{called-ends, called-goes_on, called-memory}
use Rattle.afp_server.proofs.link.session.LinkSession.called.Goals as goal

pub returns-then-ends : goal.returns-then-ends
returns-then-ends c =
    let block : List ℕ = take c.in-Reply.size (drop 16 c.args.self.now.reply) in record {
      called =
          called-ends (frame_of c.args.request.now []) (told_in c.args.answered c.args.self.now) c.in-Reply.code block block c.in-Reply.ends c.args.self.now c.close.new.self
          (ap (λ (a : Answered). told_in a c.args.self.now) c.in-Reply.is) c.if-ends.true refl (ap (λ (s : SessionState). s.stage) c.close.ensures)
          (ap (λ (s : SessionState). s.reply) c.close.ensures ∙ ap (λ (s : SessionState). s.reply) c.answer_told.ensures)
          (ap (λ (s : SessionState). s.block) c.close.ensures ∙ ap (λ (s : SessionState). s.block) c.answer_told.ensures)
          (ap (λ (s : SessionState). s.tally) c.close.ensures ∙ ap (λ (s : SessionState). s.tally) c.answer_told.ensures);
    }

pub returns-else-ends : goal.returns-else-ends
returns-else-ends c =
    let block : List ℕ = take c.in-Reply.size (drop 16 c.args.self.now.reply) in record {
      called =
          called-goes_on (frame_of c.args.request.now []) (told_in c.args.answered c.args.self.now) c.in-Reply.code block block c.in-Reply.ends c.args.self.now c.answer_told.new.self
          (ap (λ (a : Answered). told_in a c.args.self.now) c.in-Reply.is) c.if-ends.false refl c.answer_told.ensures;
    }

pub returns-in-Memory : goal.returns-in-Memory
returns-in-Memory c = record {
  called = called-memory (frame_of c.args.request.now []) (told_in c.args.answered c.args.self.now) c.args.self.now c.answer.new.self (ap (λ (a : Answered). told_in a c.args.self.now) c.in-Memory.is)
      (c.answer.ensures ∙ ap (λ (s : SessionState). record s { reply = canonical_frame (reply_to (frame_of c.args.request.now []) code.NoMemory []); tally = and_reply (code_word code.NoMemory) s.tally }) c.note_memory.ensures);
}
