use Rattle.std.proofs.Common.{arith, inl, inr}
use Rattle.client_files.proofs.GetLemmas.{get_ends, get_over, moves_more}
use Rattle.client_files.proofs.get.get_fork.Goals as goal

pub loop-n-preserved : goal.loop-n-preserved
loop-n-preserved g c =
    let so_far = c.loop-n.invariant in
    (omega (arith, so_far.0, c.if-n-at.false), moves_more {E = g.row.A-End.Denot} _ _ _ _ _ _ _ _ _ _ _ so_far.1 c.in-Moved.ensures.gets)

pub returns-then-n-at : goal.returns-then-n-at
returns-then-n-at g c = get_over {E = g.row.A-End.Denot} _ _ _ _ _ _ _ _ _ _ _ c.loop-n.invariant.1 (omega (arith, c.loop-n.invariant.0, c.if-n-at.true)) (inl c.in-Moved.ensures.gets)

pub returns-then-n-at-2 : goal.returns-then-n-at-2
returns-then-n-at-2 g c = get_over {E = g.row.A-End.Denot} _ _ _ _ _ _ _ _ _ _ _ c.loop-n.invariant.1 (omega (arith, c.loop-n.invariant.0, c.if-n-at-2.true)) (inr c.in-Last.ensures.gets)

pub returns-in-Ends : goal.returns-in-Ends
returns-in-Ends g c = get_ends _ _ _ _ _ _ _ _ _ _ _ c.loop-n.invariant.1 c.in-Ends.ensures.gets
