use Rattle.std.proofs.Common.{ℕ, List, subst, arith}
use Rattle.capture_made.specs.made.lemma.Adding.{Takes}
use Rattle.capture_made.proofs.OfMade.AddingLemmas.{adds-line, line-cut, on_ok_with}
use Rattle.capture_made.proofs.made.adding.add.Goals as goal

pub returns-clause-adds : goal.returns-clause-adds
returns-clause-adds g c =
    on_ok_with c.extend.result _ _
    (λ x s line is e.
    adds-line s line c.args.ended.now c.args.text.now c.extend.new.self c.take.new.capture e
    (subst (λ (l : List ℕ). Takes s l c.take.new.capture) (line-cut line c.args.ended.now c.saturating_sub-size.result (omega (arith, c.saturating_sub-size.ensures)) e) (c.in_ok-take.ensures.takes s is)) x)
    c.extend.ensures.ok

pub returns-clause-stands : goal.returns-clause-stands
returns-clause-stands g c = on_ok_with c.extend.result _ _ (λ x. c.in_ok-take.ensures.stands) c.extend.ensures.ok
