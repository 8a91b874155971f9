use Rattle.std.proofs.Common.{refl, ◌∙◌}
use Rattle.client_files.proofs.PutLemmas.{places_more, put_ends, put_last, puts_more, puts_none}
use Rattle.client_files.proofs.put.put_fork.Goals as goal

pub loop-n-init : goal.loop-n-init
loop-n-init g c = (c.requires.from, refl, puts_none _ _ _ _ _)

pub loop-n-preserved : goal.loop-n-preserved
loop-n-preserved g c =
    let so_far = c.loop-n.invariant in
    let next = c.in-Moved.ensures.puts in
    (places_more {E = g.row.A-End.Denot} _ _ _ _ _ _ _ _ next, c.put_once.ensures.size ∙ so_far.1, puts_more {E = g.row.A-End.Denot} _ _ _ _ _ _ _ _ _ _ _ _ so_far.1 so_far.2 next)

pub returns-in-Last-clause-puts : goal.returns-in-Last-clause-puts
returns-in-Last-clause-puts g c = let so_far = c.loop-n.invariant in put_last _ _ _ _ _ _ _ _ _ _ _ so_far.1 so_far.2 c.in-Last.ensures.puts

pub returns-in-Ends-clause-puts : goal.returns-in-Ends-clause-puts
returns-in-Ends-clause-puts g c = let so_far = c.loop-n.invariant in put_ends _ _ _ _ _ _ _ _ _ _ _ _ so_far.1 so_far.2 c.in-Ends.ensures.puts
