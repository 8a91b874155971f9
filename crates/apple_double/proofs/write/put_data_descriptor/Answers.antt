use Rattle.std.proofs.Common.{sym, ap, length, ℕ, List, ◌∙◌, ◌++◌}
use Rattle.apple_double.specs.Contents.{data_id}
use Rattle.apple_double.specs.Written.{descriptor_bytes}
use Rattle.apple_double.proofs.Pieces.{one-described}
use Rattle.apple_double.proofs.write.put_data_descriptor.Goals as goal

pub returns-in_ok-put_descriptor-in-Single-clause-ok : goal.returns-in_ok-put_descriptor-in-Single-clause-ok
returns-in_ok-put_descriptor-in-Single-clause-ok c =
    rw c.in-Single.is
    (c.in_ok-put_descriptor-in-Single.ensures.ok
    ∙ ap (λ (n : ℕ). c.args.out.now ++ descriptor_bytes data_id c.args.offset n) (ap (length {A = ℕ}) c.as_slice.ensures)
    ∙ ap (λ (z : List ℕ). c.args.out.now ++ z) (sym (one-described data_id c.args.offset c.args.fork.now)))
