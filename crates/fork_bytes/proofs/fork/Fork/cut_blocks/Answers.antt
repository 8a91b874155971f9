use Rattle.std.proofs.Common.{◌≡◌, ◌∙◌, ◌+◌, ◌-◌, ◌/◌, ◌≤◌, take, ap, sym, subst, nat_eq, arith}
use Rattle.std.specs.Cmp.Lexicographic.{pointwise}
use Rattle.afp_base.specs.ForkBytes.{resized}
use Rattle.fork_bytes.specs.Blocks.{trimmed, block_at}
use Rattle.fork_bytes.specs.Kept.{is_empty}
use Rattle.fork_bytes.proofs.Plans.{Noted, noted, at_most_one, changes-outside}
use Rattle.fork_bytes.proofs.Writes.{cut_block, before_cut, past_all}
use Rattle.fork_bytes.proofs.fork.Fork.cut_blocks.Goals as goal

pub loop-index-preserved : goal.loop-index-preserved
loop-index-preserved c =
    let bytes = c.args.self.now in
    let first = c.args.len / 4096 in
    let index = c.loop-index.index in
    let laws = c.resizing_keeps_the_front.ensures in
    let low : first ≤ index = omega (arith, c.loop-index.auto.index, c.block_of-index.ensures) in
    let new : c.in_ok-new.new ≡ block_at (resized bytes c.args.len) index =
    c.in_ok-new.ensures ∙ ap (λ l. trimmed (take c.saturating_sub.result l)) c.block-old.ensures
    ∙ cut_block laws.length laws.front bytes c.args.len index c.saturating_sub.result (omega (arith, c.saturating_sub.ensures, c.from.ensures)) in
    record {
      noted = subst (λ n. Noted bytes (resized bytes c.args.len) first n c.note.new.self.list.items c.note.new.self.added) (omega arith)
          (noted bytes (resized bytes c.args.len) first (index - first) index c.loop-index.changes.list.items c.note.new.self.list.items c.loop-index.changes.added c.note.new.self.added
          c.block-old.result.now c.in_ok-new.new (omega arith) c.loop-index.invariant.noted c.block-old.ensures new c.in_ok-note.ensures.list c.in_ok-note.ensures.added);
      few = omega (arith, c.loop-index.invariant.few, c.in_ok-note.ensures.added, at_most_one (pointwise nat_eq c.block-old.result.now c.in_ok-new.new) (is_empty c.block-old.result.now));
    }

pub returns-clause-changes : goal.returns-clause-changes
returns-clause-changes c =
    let bytes = c.args.self.now in
    let after = resized bytes c.args.len in
    let first = c.args.len / 4096 in
    let index = c.loop-index.index in
    let laws = c.resizing_keeps_the_front.ensures in
    let low : first ≤ index = omega (arith, c.loop-index.auto.index, c.block_of-index.ensures) in
    let last : index ≡ (c.args.end - 1) / 4096 + 1 = omega (arith, c.loop-index.auto.index-end, c.loop-index-test.false, c.block_of-index-end.ensures, c.block_of-index.ensures, c.requires.shorter, c.requires.end) in
    c.loop-index.invariant.noted.list_is
    ∙ sym (changes-outside bytes after first (index - first) (omega (arith, c.requires.shorter, c.requires.end))
    (λ k below. before_cut laws.length laws.front bytes c.args.len k (omega arith))
    (λ k past. past_all bytes after k (omega (arith, past, c.requires.end)) (omega (arith, past, c.requires.end, c.requires.shorter, laws.length bytes c.args.len))))
