use Rattle.std.proofs.Common.{◌≡◌, ◌∙◌, ◌==◌, not, length, sym, ap}
use Rattle.fork_bytes.proofs.Applies.{if_writes}
use Rattle.fork_bytes.proofs.Blocks.{length-bytes}
use Rattle.fork_bytes.proofs.fork.Fork.plan_set_length.Goals as goal

pub returns-clause-writes : goal.returns-clause-writes
returns-clause-writes c =
    let len : c.self.inside.len ≡ length c.args.self.now = sym (length-bytes c.self.inside.len c.self.inside.blocks.items) ∙ ap length c.self.view_is in
    if_writes _ _ _ (ap (λ n. not (c.args.len == n)) len) c.planned.ensures.writes
