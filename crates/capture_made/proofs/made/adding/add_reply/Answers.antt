use Rattle.std.proofs.Common.{[], ◌∷◌, ◌∙◌, ◌++◌, ap, subst, ℕ, List}
use Rattle.std.specs.Prelude.{codes}
use Rattle.capture_log_lines.specs.made.Lines.{out_line}
use Rattle.capture_made.specs.made.lemma.Adding.{Adds}
use Rattle.capture_made.proofs.OfMade.AddingLemmas.{on_ok_with}
use Rattle.capture_made.proofs.made.adding.add_reply.Goals as goal

pub returns-clause-adds : goal.returns-clause-adds
returns-clause-adds g c =
    let line : List ℕ → List ℕ = λ bytes. out_line c.args.request.now.link c.args.request.now.at bytes in
    on_ok_with c.add.result _ _
    (λ x s is.
    subst (λ (b : List ℕ). Adds s (line b ∷ []) c.args.text.now c.add.new.capture c.add.new.text) (c.uncompared.ensures s is)
    (x s (line c.uncompared.result.now) is
    (c.as_slice.ensures ∙ c.in_ok-put_out_line.ensures ∙ ap (λ (l : List ℕ). (l ++ line c.uncompared.result.now) ++ codes "\n") c.new-line.ensures)))
    c.add.ensures.adds
