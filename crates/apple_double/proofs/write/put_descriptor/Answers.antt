use Rattle.std.proofs.Common.{ℕ, List, ◌++◌}
use Rattle.byteorder.specs.Endian.{big_bytes}
use Rattle.apple_double.specs.Written.{descriptor_bytes}
use Rattle.apple_double.proofs.Pieces.{behind}
use Rattle.apple_double.proofs.write.put_descriptor.Goals as goal

pub returns-clause-ok : goal.returns-clause-ok
unfolding descriptor_bytes
returns-clause-ok c =
    let o : List ℕ = c.args.out.now in
    let a : List ℕ = big_bytes 4 c.args.id in
    let b : List ℕ = big_bytes 4 c.args.offset in
    let e2 = behind o c.push_u32.new.self c.push_u32-2.new.self a b c.in_ok-push_u32.ensures.ok c.in_ok-push_u32-2.ensures.ok in
    behind o c.push_u32-2.new.self c.push_u32-3.new.self (a ++ b) (big_bytes 4 c.args.size) e2 c.in_ok-push_u32-3.ensures.ok
