-- Calls one after another: soundness, and ids that are drawn once.
use Rattle.std.proofs.Common.{◌≡◌, ◌∙◌, sym, refl, subst, ℕ, ◌<◌, Bool, true, false, List, [], ◌∷◌, Option, Some, None}
use Rattle.std.specs.List.{list_all}
use Rattle.std.proofs.lemmas.Bool.{and_parts}
use Rattle.afp_base.specs.declared.code.Code.{Code}
use Rattle.volume_spec.proofs.CallsMay.{tree-may}
use Rattle.volume_spec.proofs.EditsLater.{IsLater, call-later, later-later, same-later}
use Rattle.volume_spec.proofs.EditsSound.{call-sound}
use Rattle.volume_spec.proofs.EffectEdits.{effects-are}
use Rattle.volume_spec.specs.EditLaws.{volume_call}
use Rattle.volume_spec.specs.SoundVolume.{has_node, IsSoundVolume}
use Rattle.volume_spec.specs.TreeSteps.{TreeStep, tree_refusal, tree_effect, is_named_call, unless_refused, after_step, after_steps}
use Rattle.volume_spec.specs.VolumeCalls.{call_edits}
use Rattle.volume_spec.specs.VolumeState.{VolumeState}

step-later : (v : VolumeState) (step : TreeStep) → IsLater v (after_step v step)
step-later v step = by (tree_refusal v step.user step.opens step.call)
  where
    by : (o : Option Code) → IsLater v (unless_refused o v (tree_effect v step.user step.now step.call))
    by None = subst (IsLater v) (effects-are v step.user step.now step.call) (call-later v step.now (call_edits v step.user step.now (volume_call step.call)))
    by (Some code) = same-later v

pub steps-later : (v : VolumeState) (steps : List TreeStep) → IsLater v (after_steps v steps)
steps-later v [] = same-later v
steps-later v (step ∷ steps) = later-later v (after_step v step) (after_steps (after_step v step) steps) (step-later v step) (steps-later (after_step v step) steps)

pub never-again : (v : VolumeState) (steps : List TreeStep) (id : ℕ) → id < v.next_id → has_node v.rows id ≡ false → has_node (after_steps v steps).rows id ≡ false
never-again v steps id drawn gone = by (has_node (after_steps v steps).rows id) refl
  where
    by : (b : Bool) → has_node (after_steps v steps).rows id ≡ b → b ≡ false
    by false h = refl
    by true h = sym ((steps-later v steps).old id drawn h) ∙ gone

-- soundness over calls

pub effect-sound : (v : VolumeState) (step : TreeStep) → is_named_call step.call ≡ true → tree_refusal v step.user step.opens step.call ≡ None → IsSoundVolume v → IsSoundVolume (tree_effect v step.user step.now step.call)
effect-sound v step named passes s =
    subst IsSoundVolume (effects-are v step.user step.now step.call)
    (call-sound v step.now (call_edits v step.user step.now (volume_call step.call)) (tree-may v step.user step.opens step.now step.call named passes s) s)

pub step-sound : (v : VolumeState) (step : TreeStep) → is_named_call step.call ≡ true → IsSoundVolume v → IsSoundVolume (after_step v step)
step-sound v step named s = by (tree_refusal v step.user step.opens step.call) refl
  where
    by : (o : Option Code) → tree_refusal v step.user step.opens step.call ≡ o → IsSoundVolume (unless_refused o v (tree_effect v step.user step.now step.call))
    by None passes = effect-sound v step named passes s
    by (Some code) refused = s

pub steps-sound : (v : VolumeState) (steps : List TreeStep) → list_all (λ (step : TreeStep). is_named_call step.call) steps ≡ true → IsSoundVolume v → IsSoundVolume (after_steps v steps)
steps-sound v [] named s = s
steps-sound v (step ∷ steps) named s =
    let e = and_parts (is_named_call step.call) (list_all (λ (t : TreeStep). is_named_call t.call) steps) named in
    steps-sound (after_step v step) steps e.1 (step-sound v step e.0 s)
