use Rattle.std.proofs.Common.{◌≡◌, ◌∙◌, ap, subst, List, ℕ}
use Rattle.std.specs.Prelude.{IfOk, Option, option_map}
use Rattle.volume_spec.specs.Desktop.{icon_at}
use Rattle.volume_changes.specs.records.Values.{icon_value}
use Rattle.volume_changes.specs.steps.Step.{StepValue}
use Rattle.volume_changes.specs.steps.lemma.Records.{icon_bytes}
use Rattle.volume_changes.proofs.OfSteps.Told.{icon-told}
use Rattle.volume_changes.proofs.steps.step.StepTransition.icon_before.Goals as goal

pub returns : goal.returns
returns c =
    subst (λ (v : Option (List ℕ)). IfOk c.icon_bytes.result (λ value. value ≡ v))
    (ap (option_map icon_bytes) c.icon.ensures ∙ icon-told (icon_at c.args.key.now (c.self.inside.whole.now.state).icons) ∙ ap (λ (s : StepValue). icon_value s.before c.args.key.now) c.self.view_is)
    c.icon_bytes.ensures
