-- Calls one after another keep a volume's numbers in their ranges.
use Rattle.std.proofs.Common.{◌≡◌, refl, subst, ℕ, pos, true, List, [], ◌∷◌, Option, Some, None, ◌&&◌}
use Rattle.std.specs.List.{list_all}
use Rattle.std.proofs.lemmas.Bool.{and_parts, and_from}
use Rattle.afp_base.specs.declared.code.Code.{Code}
use Rattle.afp_names.specs.Name.{name_fault}
use Rattle.volume_spec.proofs.CallsBring.{tree-brings}
use Rattle.volume_spec.proofs.CallsMay.{tree-may}
use Rattle.volume_spec.proofs.EditsTyped.{edits-of-call-typed}
use Rattle.volume_spec.proofs.EffectEdits.{effects-are}
use Rattle.volume_spec.proofs.Later.{step-sound}
use Rattle.volume_spec.proofs.NameBytes.{name-bytes}
use Rattle.volume_spec.proofs.TypedEdits.{typed-parts, typed-whole, typed-at, row-whole}
use Rattle.volume_spec.specs.EditLaws.{volume_call}
use Rattle.volume_spec.specs.Edits.{with_changed}
use Rattle.volume_spec.specs.SoundVolume.{IsSoundVolume}
use Rattle.volume_spec.specs.TreeSteps.{TreeStep, tree_refusal, tree_effect, is_named_call, is_typed_call, is_typed_step, unless_refused, after_step, after_steps}
use Rattle.volume_spec.specs.TypedVolume.{is_date, is_typed_row, is_typed_volume, is_long}
use Rattle.volume_spec.specs.VolumeCalls.{call_edits}
use Rattle.volume_spec.specs.VolumeState.{Row, VolumeState, fresh_volume, new_row, root_id, root_parent, guest}

pub call-typed : (v : VolumeState) (step : TreeStep) → is_typed_step step ≡ true → is_named_call step.call ≡ true → tree_refusal v step.user step.opens step.call ≡ None → IsSoundVolume v → is_typed_volume v ≡ true → is_typed_volume (tree_effect v step.user step.now step.call) ≡ true
call-typed v step typed named passes s h =
    let e = and_parts (is_date (pos step.now)) (is_long step.user && is_typed_call step.call) typed in
    let by = and_parts (is_long step.user) (is_typed_call step.call) e.1 in
    subst (λ w. is_typed_volume w ≡ true) (effects-are v step.user step.now step.call)
    (edits-of-call-typed v step.now (call_edits v step.user step.now (volume_call step.call)) e.0 (tree-may v step.user step.opens step.now step.call named passes s) (tree-brings v step.user step.opens step.now step.call by.0 e.0 by.1 named passes s h) h)

step-typed : (v : VolumeState) (step : TreeStep) → is_typed_step step ≡ true → is_named_call step.call ≡ true → IsSoundVolume v → is_typed_volume v ≡ true → is_typed_volume (after_step v step) ≡ true
step-typed v step typed named s h = by (tree_refusal v step.user step.opens step.call) refl
  where
    by : (o : Option Code) → tree_refusal v step.user step.opens step.call ≡ o → is_typed_volume (unless_refused o v (tree_effect v step.user step.now step.call)) ≡ true
    by None passes = call-typed v step typed named passes s h
    by (Some code) refused = h

pub steps-typed : (v : VolumeState) (steps : List TreeStep) → list_all is_typed_step steps ≡ true → list_all (λ (step : TreeStep). is_named_call step.call) steps ≡ true → IsSoundVolume v → is_typed_volume v ≡ true → is_typed_volume (after_steps v steps) ≡ true
steps-typed v [] typed named s h = h
steps-typed v (step ∷ steps) typed named s h =
    let e = and_parts (is_named_call step.call) (list_all (λ (t : TreeStep). is_named_call t.call) steps) named in
    let f = and_parts (is_typed_step step) (list_all is_typed_step steps) typed in
    steps-typed (after_step v step) steps f.1 e.1 (step-sound v step e.0 s) (step-typed v step f.0 e.0 s h)

pub fresh-typed : (name : List ℕ) (now : ℕ) → name_fault name ≡ None → is_date (pos now) ≡ true → is_typed_volume (fresh_volume name now) ≡ true
fresh-typed name now good moment =
    let root : Row = new_row true guest root_id root_parent name now in
    let bytes = name-bytes name good in
    typed-whole (fresh_volume name now) (record {
      name = bytes;
      created = moment;
      modified = moment;
      backup = refl;
      next = refl;
      rows = and_from (is_typed_row root) true (row-whole root (record { id = refl; parent = refl; attributes = refl; created = moment; modified = moment; backup = refl; finder = refl; privileges = refl; name = bytes; data_fork = refl; resource_fork = refl })) refl;
      comments = refl;
      icons = refl;
      appls = refl;
    })

pub put-typed : (v : VolumeState) (id : ℕ) (t : Row) → is_typed_row t ≡ true → is_typed_volume v ≡ true → is_typed_volume (record v { rows = with_changed id (λ row. t) v.rows }) ≡ true
put-typed v id t typed h = typed-whole (record v { rows = with_changed id (λ row. t) v.rows }) (typed-at v id (λ row. t) (λ row is. typed) (typed-parts v h))
