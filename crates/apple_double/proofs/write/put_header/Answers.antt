use Rattle.std.proofs.Common.{ℕ, List, ap, ◌∙◌, ◌++◌, replicate}
use Rattle.byteorder.specs.Endian.{big_bytes}
use Rattle.apple_double.specs.Format.{magic_of, version}
use Rattle.apple_double.specs.Written.{header}
use Rattle.apple_double.proofs.Pieces.{behind}
use Rattle.apple_double.proofs.write.put_header.Goals as goal

pub returns-clause-ok : goal.returns-clause-ok
unfolding header
returns-clause-ok c =
    let o : List ℕ = c.args.out.now in
    let m : List ℕ = big_bytes 4 (magic_of c.args.shape) in
    let v : List ℕ = big_bytes 4 version in
    let z : List ℕ = replicate 16 0 in
    let e1 = c.in_ok-push_u32.ensures.ok ∙ ap (λ (n : ℕ). o ++ big_bytes 4 n) c.magic_of.ensures in
    let e2 = behind o c.push_u32.new.self c.push_u32-2.new.self m v e1 c.in_ok-push_u32-2.ensures.ok in
    let e3 = behind o c.push_u32-2.new.self c.extend.new.self (m ++ v) z e2 c.in_ok-extend.ensures.ok in
    behind o c.extend.new.self c.push_u16.new.self (m ++ v ++ z) (big_bytes 2 c.args.count) e3 c.in_ok-push_u16.ensures.ok
