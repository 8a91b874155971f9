use Rattle.std.proofs.Common.{length, arith}
use Rattle.afp_names.proofs.PathLemmas.{element_before-stop}
use Rattle.afp_names.proofs.path.element_at_front.Goals as goal

pub returns-then-byte-eq0 : goal.returns-then-byte-eq0
returns-then-byte-eq0 c =
    element_before-stop c.args.bytes.now c.loop-i.i (omega arith) c.loop-i.invariant (λ _. c.if-byte-eq0.true)

pub returns : goal.returns
returns c =
    element_before-stop c.args.bytes.now (length c.args.bytes.now) (omega arith) (λ k below. c.loop-i.invariant k (omega arith)) (λ more. absurd (omega arith))
