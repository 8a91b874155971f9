use Rattle.std.proofs.Common.{length, arith}
use Rattle.afp_names.proofs.PathLemmas.{zeros_before-stop}
use Rattle.afp_names.proofs.path.zeros_at_front.Goals as goal

pub returns-then-byte-ne0 : goal.returns-then-byte-ne0
returns-then-byte-ne0 c =
    zeros_before-stop c.args.bytes.now c.loop-i.i (omega arith) c.loop-i.invariant (λ _. c.if-byte-ne0.true)

pub returns : goal.returns
returns c =
    zeros_before-stop c.args.bytes.now (length c.args.bytes.now) (omega arith) (λ k below. c.loop-i.invariant k (omega arith)) (λ more. absurd (omega arith))
