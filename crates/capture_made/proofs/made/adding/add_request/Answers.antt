use Rattle.std.proofs.Common.{◌∙◌, ◌++◌, ap, ℕ, List}
use Rattle.std.specs.Prelude.{codes}
use Rattle.capture_log_lines.specs.made.Lines.{in_line}
use Rattle.capture_made.proofs.OfMade.AddingLemmas.{on_ok_with}
use Rattle.capture_made.proofs.made.adding.add_request.Goals as goal

pub returns-clause-adds : goal.returns-clause-adds
returns-clause-adds g c =
    let line : List ℕ → List ℕ = λ bytes. in_line c.args.request.now.link c.args.request.now.at bytes in
    on_ok_with c.add.result _ _
    (λ x s is.
    x s (line c.args.request.now.frame) is
    (c.as_slice-2.ensures ∙ c.in_ok-put_in_line.ensures ∙ ap (λ (b : List ℕ). (c.new-line.result ++ line b) ++ codes "\n") c.as_slice.ensures
    ∙ ap (λ (l : List ℕ). (l ++ line c.args.request.now.frame) ++ codes "\n") c.new-line.ensures))
    c.add.ensures.adds
