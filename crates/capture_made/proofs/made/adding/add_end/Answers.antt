use Rattle.std.proofs.Common.{refl}
use Rattle.std.specs.Prelude.{codes}
use Rattle.capture_made.proofs.OfMade.AddingLemmas.{on_ok_with}
use Rattle.capture_made.proofs.made.adding.add_end.Goals as goal

pub returns-clause-adds : goal.returns-clause-adds
returns-clause-adds g c = on_ok_with c.add.result _ _ (λ x s is. x s (codes "end") is refl) c.add.ensures.adds
