use Rattle.std.proofs.Common.{◌≡◌, ◌∙◌, ◌++◌, ℕ, take, drop, replicate, arith, rules}
use Rattle.byteorder.specs.Endian.{big_number}
use Rattle.record_keeper.proofs.front.front_of.Goals as goal
use Rattle.record_keeper.proofs.FrontLemmas.{padded_front}

pub returns : goal.returns
returns c =
    let size : ℕ = c.min-size.result in
    let read : c.read_u128.result ≡ big_number 16 (take size c.args.bytes.now ++ drop size (replicate 16 0)) = search rules in
    read ∙ padded_front 16 size c.args.bytes.now (omega (arith, c.min-size.ensures)) (omega (arith, c.min-size.ensures)) (λ small. omega (arith, c.min-size.ensures))
