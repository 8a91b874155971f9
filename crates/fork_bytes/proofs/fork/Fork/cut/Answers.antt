use Rattle.std.proofs.Common.{◌≡◌, ◌∙◌, length, sym, ap, max, arith}
use Rattle.afp_base.specs.ForkBytes.{resized}
use Rattle.fork_bytes.specs.Blocks.{block_count}
use Rattle.fork_bytes.proofs.Blocks.{length-bytes}
use Rattle.fork_bytes.proofs.Plans.{changes-none}
use Rattle.fork_bytes.proofs.Writes.{longer_block}
use Rattle.fork_bytes.proofs.fork.Fork.cut.Goals as goal

pub returns-then-self-len-clause-changes : goal.returns-then-self-len-clause-changes
returns-then-self-len-clause-changes c =
    let len : c.self.inside.len ≡ length c.args.self.now = sym (length-bytes c.self.inside.len c.self.inside.blocks.items) ∙ ap length c.self.view_is in
    let laws = c.resizing_keeps_the_front.ensures in
    let after = resized c.args.self.now c.args.len in
    c.new.ensures.list
    ∙ sym (changes-none c.args.self.now after 0 (max (block_count (length c.args.self.now)) (block_count (length after)))
    (λ k low high. longer_block laws.length laws.front c.args.self.now c.args.len k (omega (arith, len, c.if-self-len.true))))

pub cut_blocks-requires-clause-shorter : goal.cut_blocks-requires-clause-shorter
cut_blocks-requires-clause-shorter c =
    let len : c.self.inside.len ≡ length c.args.self.now = sym (length-bytes c.self.inside.len c.self.inside.blocks.items) ∙ ap length c.self.view_is in
    omega (arith, len, c.if-self-len.false)

pub cut_blocks-requires-clause-end : goal.cut_blocks-requires-clause-end
cut_blocks-requires-clause-end c = sym (length-bytes c.self.inside.len c.self.inside.blocks.items) ∙ ap length c.self.view_is
