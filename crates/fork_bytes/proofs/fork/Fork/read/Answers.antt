use Rattle.std.proofs.Common.{◌≡◌, ◌∙◌, ◌++◌, length, sym, ap, append-nil, arith}
use Rattle.fork_bytes.proofs.Blocks.{length-bytes}
use Rattle.fork_bytes.proofs.Writes.{taken_past}
use Rattle.fork_bytes.proofs.fork.Fork.read.Goals as goal

pub returns-then-from-self-clause-ok : goal.returns-then-from-self-clause-ok
returns-then-from-self-clause-ok c =
    let len : c.self.inside.len ≡ length c.args.self.now = sym (length-bytes c.self.inside.len c.self.inside.blocks.items) ∙ ap length c.self.view_is in
    sym (ap (λ l. c.args.out.now ++ l) (taken_past c.args.self.now c.args.from c.args.count (omega (arith, len, c.if-from-self.true))) ∙ append-nil c.args.out.now)

pub end_of-requires : goal.end_of-requires
end_of-requires c =
    let len : c.self.inside.len ≡ length c.args.self.now = sym (length-bytes c.self.inside.len c.self.inside.blocks.items) ∙ ap length c.self.view_is in
    omega (arith, len, c.if-from-self.false)

pub read_blocks-requires-clause-within : goal.read_blocks-requires-clause-within
read_blocks-requires-clause-within c =
    let len : c.self.inside.len ≡ length c.args.self.now = sym (length-bytes c.self.inside.len c.self.inside.blocks.items) ∙ ap length c.self.view_is in
    omega (arith, len, c.if-from-self.false, c.end_of.ensures)

pub read_blocks-requires-clause-few : goal.read_blocks-requires-clause-few
read_blocks-requires-clause-few c =
    let len : c.self.inside.len ≡ length c.args.self.now = sym (length-bytes c.self.inside.len c.self.inside.blocks.items) ∙ ap length c.self.view_is in
    omega (arith, len, c.if-from-self.false, c.end_of.ensures, c.self.invariant.few)
