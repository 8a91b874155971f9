use Rattle.std.proofs.Common.{◌≡◌, ◌∙◌, ◌+◌, ◌-◌, ◌*◌, ◌/◌, ◌≤◌, length, sym, subst, nat_eq, arith}
use Rattle.std.specs.Cmp.Lexicographic.{pointwise}
use Rattle.afp_base.specs.ForkBytes.{splice}
use Rattle.fork_bytes.specs.Blocks.{trimmed, block_at}
use Rattle.fork_bytes.specs.Kept.{is_empty}
use Rattle.fork_bytes.proofs.Plans.{Noted, noted, at_most_one, changes-outside}
use Rattle.fork_bytes.proofs.Trimmed.{length-block}
use Rattle.fork_bytes.proofs.Writes.{Splices, spliced_block, before_splice, behind_splice, part_of}
use Rattle.fork_bytes.proofs.fork.Fork.written.Goals as goal

pub spliced-requires-clause-block : goal.spliced-requires-clause-block
spliced-requires-clause-block c = subst (λ l. length l ≤ 4096) (sym c.block-old.ensures) (length-block c.args.self.now c.loop-index.index)

pub loop-index-preserved : goal.loop-index-preserved
loop-index-preserved c =
    let bytes = c.args.self.now in
    let piece = c.args.piece.now in
    let from = c.args.from in
    let first = from / 4096 in
    let index = c.loop-index.index in
    let after = splice bytes from piece in
    let s : Splices = record { before = c.splice_puts_between.ensures.before; between = c.splice_puts_between.ensures.between; behind = c.splice_puts_between.ensures.behind; reaches = c.splice_puts_between.ensures.reaches } in
    let low : first ≤ index = omega (arith, c.loop-index.auto.index, c.block_of-index.ensures) in
    let high : index ≤ (c.args.end - 1) / 4096 = omega (arith, c.loop-index-test.true, c.block_of-index-end.ensures) in
    let part = part_of piece from c.args.end index c.front_of-part.result.now c.rest_of.result.now c.max-low.result c.min-high.result c.requires.some c.requires.ends low high
    (omega (arith, c.max-low.ensures, c.from.ensures)) (omega (arith, c.min-high.ensures, c.from.ensures)) c.rest_of.ensures c.front_of-part.ensures in
    let at : c.max-low.result - c.from.result * 4096 ≡ c.max-low.result - 4096 * index = omega (arith, c.from.ensures) in
    let new : c.in_ok-new.new ≡ block_at after index =
    c.in_ok-new.ensures
    ∙ (λ i. trimmed (splice (c.block-old.ensures i) (at i) c.front_of-part.result.now))
    ∙ spliced_block s bytes piece from index (c.max-low.result - 4096 * index) (c.max-low.result - from) c.front_of-part.result.now part in
    record {
      noted = subst (λ n. Noted bytes after first n c.note.new.self.list.items c.note.new.self.added) (omega arith)
          (noted bytes after first (index - first) index c.loop-index.changes.list.items c.note.new.self.list.items c.loop-index.changes.added c.note.new.self.added
          c.block-old.result.now c.in_ok-new.new (omega arith) c.loop-index.invariant.noted c.block-old.ensures new c.in_ok-note.ensures.list c.in_ok-note.ensures.added);
      few = omega (arith, c.loop-index.invariant.few, c.in_ok-note.ensures.added, at_most_one (pointwise nat_eq c.block-old.result.now c.in_ok-new.new) (is_empty c.block-old.result.now));
    }

pub returns-clause-changes : goal.returns-clause-changes
returns-clause-changes c =
    let bytes = c.args.self.now in
    let piece = c.args.piece.now in
    let from = c.args.from in
    let after = splice bytes from piece in
    let first = from / 4096 in
    let index = c.loop-index.index in
    let s : Splices = record { before = c.splice_puts_between.ensures.before; between = c.splice_puts_between.ensures.between; behind = c.splice_puts_between.ensures.behind; reaches = c.splice_puts_between.ensures.reaches } in
    let low : first ≤ index = omega (arith, c.loop-index.auto.index, c.block_of-index.ensures) in
    let last : index ≡ (c.args.end - 1) / 4096 + 1 = omega (arith, c.loop-index.auto.index-end, c.loop-index-test.false, c.block_of-index-end.ensures, c.block_of-index.ensures, c.requires.some, c.requires.ends) in
    c.loop-index.invariant.noted.list_is
    ∙ sym (changes-outside bytes after first (index - first) (omega (arith, s.reaches bytes piece from c.requires.some, c.requires.some, c.requires.ends))
    (λ k below. before_splice s bytes piece from k (omega arith))
    (λ k past. behind_splice s bytes piece from k (omega (arith, past, c.requires.some, c.requires.ends))))
