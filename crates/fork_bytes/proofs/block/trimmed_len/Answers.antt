use Rattle.std.proofs.Common.{◌≡◌, suc, ◌-◌, take, length, ap, sym, ◌∙◌, arith}
use Rattle.fork_bytes.proofs.Trimmed.{trims, none_trimmed}
use Rattle.fork_bytes.proofs.block.trimmed_len.Goals as goal

pub returns-then-bytes-len-ne0-clause-trims : goal.returns-then-bytes-len-ne0-clause-trims
returns-then-bytes-len-ne0-clause-trims c =
    let n = length c.args.bytes.now - c.loop-i.i - 1 in
    let is : suc n ≡ length c.args.bytes.now - c.loop-i.i = omega arith in
    ap (λ k. take k c.args.bytes.now) (sym is)
    ∙ trims c.args.bytes.now n (omega arith) c.if-bytes-len-ne0.true (λ k past. c.loop-i.invariant k (omega arith))

pub returns-clause-trims : goal.returns-clause-trims
returns-clause-trims c = none_trimmed c.args.bytes.now (λ k. c.loop-i.invariant k (omega arith))
