use Rattle.std.proofs.Common.{◌≡◌, ◌∙◌, sym, ap, subst, length, inl, inr, arith, vec_capacity}
use Rattle.fork_bytes.specs.Blocks.{blocks_of}
use Rattle.fork_bytes.specs.Plan.{HasRoom}
use Rattle.fork_bytes.proofs.Listed.{blocks_are}
use Rattle.fork_bytes.proofs.fork.Fork.planned.Goals.{then-room_for-kept+in_ok-reserve, else-room_for-kept}
use Rattle.fork_bytes.proofs.fork.Fork.planned.Goals as goal

pub returns-clause-room : goal.returns-clause-room
returns-clause-room c =
    let f = c.self.inside in
    let kept : length (blocks_of c.args.self.now) ≡ c.len-kept.result =
    ap (λ l. length (blocks_of l)) (sym c.self.view_is) ∙ ap length (blocks_are f.len f.blocks.items c.self.invariant.rising c.self.invariant.kept) ∙ sym f.blocks.ok.0 ∙ sym c.len-kept.ensures in
    subst (λ n. HasRoom n c.args.changes.added c.if-room_for-kept.room.cap) (sym kept) (elim c.if-room_for-kept.branch [
      | then-room_for-kept+in_ok-reserve w ↦ inr (omega (arith, w.room_for-then-room_for-kept.ensures, w.in_ok-reserve.ensures.ok, ap (λ v. vec_capacity v) w.room-is))
      | else-room_for-kept w ↦ inl (omega (arith, w.if-room_for-kept.false, c.room_for.ensures))
    ])
