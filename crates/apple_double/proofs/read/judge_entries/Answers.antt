use Rattle.std.proofs.Common.{arith, sym, ◌∙◌, below_more}
use Rattle.apple_double.proofs.Faults.{entries-good, entries-bad}
use Rattle.apple_double.proofs.read.judge_entries.Goals as goal

pub returns-then-bad-clause-fault : goal.returns-then-bad-clause-fault
returns-then-bad-clause-fault c = λ other.
    entries-bad c.args.bytes.now c.loop-index.index (omega (arith, c.count_in-index-end.ensures)) c.loop-index.invariant
    (sym c.in_ok-bad.ensures ∙ c.if-bad.true)

pub loop-index-preserved : goal.loop-index-preserved
loop-index-preserved c = below_more _ _ c.loop-index.invariant (sym c.in_ok-bad.ensures ∙ c.if-bad.false)

pub returns-clause-good : goal.returns-clause-good
returns-clause-good c = entries-good c.args.bytes.now (λ k lt. c.loop-index.invariant k (omega (arith, c.count_in-index-end.ensures)))
