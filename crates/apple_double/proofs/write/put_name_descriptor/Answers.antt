use Rattle.std.proofs.Common.{ap, length, ℕ}
use Rattle.apple_double.specs.Contents.{name_id}
use Rattle.apple_double.proofs.Pieces.{one-put}
use Rattle.apple_double.proofs.write.put_name_descriptor.Goals as goal

pub returns-in-Some-clause-ok : goal.returns-in-Some-clause-ok
returns-in-Some-clause-ok c =
    rw c.in-Some.is
    (one-put c.put_descriptor.result c.args.out.now _ name_id c.args.offset _ c.in-Some.name (ap (length {A = ℕ}) c.as_str.ensures.text) c.put_descriptor.ensures.ok)
