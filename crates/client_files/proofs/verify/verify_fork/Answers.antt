use Rattle.std.proofs.Common.{refl, ◌∙◌}
use Rattle.client_files.proofs.VerifyLemmas.{agrees_more, agrees_none}
use Rattle.client_files.proofs.verify.verify_fork.Goals as goal

pub loop-n-init : goal.loop-n-init
loop-n-init g c = (c.requires.from, refl, agrees_none _ _ _ _ _)

pub loop-n-preserved : goal.loop-n-preserved
loop-n-preserved g c =
    let so_far = c.loop-n.invariant in
    (c.in-Moved.ensures.places _ refl, c.verify_once.ensures.size ∙ so_far.1, agrees_more {E = g.row.A-End.Denot} _ _ _ _ _ _ _ _ _ _ _ so_far.2 c.in-Moved.ensures.verifies)
