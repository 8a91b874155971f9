use Rattle.std.proofs.Common.{◌≡◌, ◌∙◌, length, sym, ap, arith}
use Rattle.fork_bytes.proofs.Blocks.{length-bytes}
use Rattle.fork_bytes.proofs.fork.Fork.end_of.Goals as goal

pub overflow_sub-self-inside : goal.overflow_sub-self-inside
overflow_sub-self-inside c =
    let len : c.self.inside.len ≡ length c.args.self.now = sym (length-bytes c.self.inside.len c.self.inside.blocks.items) ∙ ap length c.self.view_is in
    omega (arith, len, c.requires)

pub overflow_add-result : goal.overflow_add-result
overflow_add-result c =
    let len : c.self.inside.len ≡ length c.args.self.now = sym (length-bytes c.self.inside.len c.self.inside.blocks.items) ∙ ap length c.self.view_is in
    omega (arith, len, c.requires, c.self.invariant.few, c.min.ensures)

pub returns : goal.returns
returns c =
    let len : c.self.inside.len ≡ length c.args.self.now = sym (length-bytes c.self.inside.len c.self.inside.blocks.items) ∙ ap length c.self.view_is in
    omega (arith, len, c.min.ensures, c.from.ensures)
