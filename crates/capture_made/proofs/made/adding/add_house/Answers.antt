use Rattle.std.proofs.Common.{refl, [], ◌∷◌}
use Rattle.std.specs.Prelude.{codes}
use Rattle.capture_made.proofs.OfMade.AddingLemmas.{adds-join, on_ok_with}
use Rattle.capture_made.proofs.made.adding.add_house.Goals as goal

pub returns-clause-adds : goal.returns-clause-adds
returns-clause-adds g c =
    on_ok_with c.add-5.result _ _
    (λ x s is.
    let a = c.in_ok-add.ensures.adds s (codes "afp-capture 1") is refl in
    let b = c.in_ok-add-2.ensures.adds a.after (codes "server Mac") a.is refl in
    let d = c.in_ok-add-3.ensures.adds b.after (codes "signature 000102030405060708090a0b0c0d0e0f") b.is refl in
    let e = c.in_ok-add-4.ensures.adds d.after (codes "volume Share") d.is refl in
    let f = x e.after (codes "key 0000000000000000000000000000000000000000000000000000000000000000") e.is refl in
    adds-join s _ _ _ _ _ _ _ a (adds-join a.after _ _ _ _ _ _ _ b (adds-join b.after _ _ _ _ _ _ _ d (adds-join d.after _ _ _ _ _ _ _ e f))))
    c.add-5.ensures.adds
