use Rattle.std.proofs.Common.{◌≡◌, ◌∙◌, length, sym, nat_eq, arith}
use Rattle.std.specs.Cmp.Lexicographic.{pointwise}
use Rattle.fork_bytes.specs.Kept.{is_empty}
use Rattle.fork_bytes.proofs.Blocks.{length-bytes}
use Rattle.fork_bytes.proofs.Plans.{noted, at_most_one, changes-outside}
use Rattle.fork_bytes.proofs.Writes.{past_all}
use Rattle.fork_bytes.proofs.fork.Fork.differing.Goals as goal

pub loop-index-preserved : goal.loop-index-preserved
loop-index-preserved c = record {
  noted = noted c.args.self.now c.args.other.now 0 c.loop-index.index c.loop-index.index c.loop-index.changes.list.items c.note_copy.new.self.list.items c.loop-index.changes.added c.note_copy.new.self.added
      c.block.result.now c.block-in-loop-index.result.now (omega arith) c.loop-index.invariant.noted c.block.ensures c.block-in-loop-index.ensures c.in_ok-note_copy.ensures.list c.in_ok-note_copy.ensures.added;
  few = omega (arith, c.loop-index.invariant.few, c.in_ok-note_copy.ensures.added, at_most_one (pointwise nat_eq c.block.result.now c.block-in-loop-index.result.now) (is_empty c.block.result.now));
}

pub returns : goal.returns
returns c =
    let a = c.args.self.now in
    let b = c.args.other.now in
    let one : length a ≡ c.self.inside.len = rw (← c.self.view_is) (length-bytes _ _) in
    let two : length b ≡ c.other.inside.len = rw (← c.other.view_is) (length-bytes _ _) in
    c.loop-index.invariant.noted.list_is
    ∙ sym (changes-outside a b 0 c.loop-index.index (omega (arith, one, two, c.loop-index.auto.index-end, c.blocks_for-index-end.ensures, c.max.ensures)) (λ k below. absurd (omega (arith, below)))
    (λ k past. past_all a b k (omega (arith, past, one, two, c.loop-index-test.false, c.blocks_for-index-end.ensures, c.max.ensures)) (omega (arith, past, one, two, c.loop-index-test.false, c.blocks_for-index-end.ensures, c.max.ensures))))
