use Rattle.std.proofs.Common.{arith, ◌∙◌, ap, ◌++◌, List, ℕ, length, take, drop}
use Rattle.dsi_frame.proofs.BufferLemmas.{put-behind}
use Rattle.dsi_frame.proofs.deframer.put_behind.Goals as goal

pub returns-clause-bytes : goal.returns-clause-bytes
returns-clause-bytes c =
    put-behind c.make_room-start.result c.args.held _ (length c.args.piece.now) c.make_room-start.new.buffer c.copy_from_slice.new.self
    (omega arith) (ap length c.copy_from_slice.ensures.after)
    ∙ ap (λ (l : List ℕ). l ++ c.copy_from_slice.new.self) c.make_room-start.ensures.same
    ∙ ap (λ (l : List ℕ). take c.args.held (drop c.args.start c.args.buffer.now) ++ l) c.copy_from_slice.ensures.after
