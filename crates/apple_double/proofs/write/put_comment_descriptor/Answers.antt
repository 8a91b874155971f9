use Rattle.std.proofs.Common.{ap, length, ℕ}
use Rattle.apple_double.specs.Contents.{comment_id}
use Rattle.apple_double.proofs.Pieces.{one-put}
use Rattle.apple_double.proofs.write.put_comment_descriptor.Goals as goal

pub returns-in-Some-clause-ok : goal.returns-in-Some-clause-ok
returns-in-Some-clause-ok c =
    rw c.in-Some.is
    (one-put c.put_descriptor.result c.args.out.now _ comment_id c.args.offset _ c.in-Some.comment (ap (length {A = ℕ}) c.as_slice.ensures) c.put_descriptor.ensures.ok)
