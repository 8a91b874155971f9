-- The plan of a call from the edits that it has.
use Rattle.std.proofs.Common.{◌≡◌, ◌∙◌, ℕ, true, List, [], ◌∷◌, map, Option, None, Result, Ok, Err, refl, sym, ap, subst}
use Rattle.std.specs.Prelude.{IfOk}
use Rattle.std.specs.List.{list_all}
use Rattle.afp_base.specs.declared.code.Code.{Code}
use Rattle.volume_spec.specs.EditLaws.{MayEditAll}
use Rattle.volume_spec.specs.EditRanges.{is_typed_edit, is_typed_volume_call}
use Rattle.volume_spec.specs.Edit.{Edit}
use Rattle.volume_spec.specs.VolumeCalls.{VolumeCall, call_edits, is_formed_call, volume_refusal}
use Rattle.volume_spec.specs.Shared.{Opened}
use Rattle.volume_spec.specs.VolumeState.{VolumeState}
use Rattle.volume_tree.specs.Answered.{Refuses}
use Rattle.volume_tree.specs.declared.resolve.PlanFault.{PlanFault}
use Rattle.volume_tree.specs.declared.resolve.PlanFault.TheVariants as fault
use Rattle.volume_edits.specs.edits.Planned.{EditValue, PlanValue, StandOn, StandsOn, edits_of, plain}
use Rattle.volume_edits.specs.plans.Plans.{Plans}
use Rattle.volume_edits.specs.plans.lemma.One.{HasEdits, Holds, IsPlanOf}

-- what holds of a volume and a user's call that is not refused
pub record Passes (v : VolumeState) (user now : ℕ) (call : VolumeCall) : Type 0 where
  pub holds : Holds v user now
  pub formed_call : is_formed_call call ≡ true
  pub typed_call : is_typed_volume_call call ≡ true
  pub passes : volume_refusal v user [] call ≡ None

pub plans-edits : (v : VolumeState) (user now : ℕ) (call : VolumeCall) (edits : List EditValue) (plan : PlanValue) → Passes v user now call → edits_of edits ≡ call_edits v user now call → StandOn v edits → HasEdits now edits plan → Plans v user now call plan
plans-edits v user now call edits plan p is stand h =
    let all : edits_of plan.edits ≡ call_edits v user now call = ap edits_of h.edits ∙ is in
    record {
      moment = h.moment;
      edits = all;
      may = subst (MayEditAll v) (sym all) (p.holds.may v user [] now call p.formed_call p.passes p.holds.sound);
      before = subst (StandOn v) (sym h.edits) stand;
      typed = ap (list_all is_typed_edit) all ∙ p.holds.bring v user [] now call p.holds.long p.holds.date p.typed_call p.formed_call p.passes p.holds.sound p.holds.typed;
    }

pub plans-call : (v : VolumeState) (user now : ℕ) (call : VolumeCall) (edits : List EditValue) (r : Result PlanValue PlanFault) → Passes v user now call → edits_of edits ≡ call_edits v user now call → StandOn v edits → IsPlanOf now edits r → IfOk r (Plans v user now call)
plans-call v user now call edits (Ok plan) p is stand h = plans-edits v user now call edits plan p is stand h
plans-call v user now call edits (Err (fault.Code code)) p is stand h = absurd h
plans-call v user now call edits (Err fault.Memory) p is stand h = tt

pub passes-call : (now : ℕ) (edits : List EditValue) (r : Result PlanValue PlanFault) (refused : Option Code) → refused ≡ None → IsPlanOf now edits r → Refuses r refused
passes-call now edits (Ok plan) refused none h = none
passes-call now edits (Err (fault.Code code)) refused none h = absurd h
passes-call now edits (Err fault.Memory) refused none h = tt

-- a plan of one edit that writes no fork
pub plans-one : (v : VolumeState) (user now : ℕ) (call : VolumeCall) (e : EditValue) (edit : Edit) (r : Result PlanValue PlanFault) → Passes v user now call → e ≡ plain edit → StandsOn v edit [] → edit ∷ [] ≡ call_edits v user now call → IsPlanOf now (e ∷ []) r
    → IfOk r (Plans v user now call)
plans-one v user now call e edit r p is stands all h =
    plans-call v user now call (e ∷ []) r p (ap (λ (x : EditValue). x.edit ∷ []) is ∙ all) (subst (λ (x : EditValue). StandOn v (x ∷ [])) (sym is) (stands, tt)) h

edits-of-plain : (edits : List Edit) → edits_of (map plain edits) ≡ edits
edits-of-plain [] = refl
edits-of-plain (e ∷ es) = ap (λ l. e ∷ l) (edits-of-plain es)

-- a plan of edits that write no fork
pub plans-plain : (v : VolumeState) (user : ℕ) (opens : List Opened) (now : ℕ) (call : VolumeCall) (es : List EditValue) (edits : List Edit) (r : Result PlanValue PlanFault) → Holds v user now → is_formed_call call ≡ true → is_typed_volume_call call ≡ true
    → volume_refusal v user opens call ≡ None → es ≡ map plain edits → StandOn v (map plain edits) → edits ≡ call_edits v user now call → IsPlanOf now es r → IfOk r (Plans v user now call)
plans-plain v user opens now call es edits (Ok plan) holds formed typed none is stand all h =
    let same : plan.edits ≡ map plain edits = h.edits ∙ is in
    let those : edits_of plan.edits ≡ call_edits v user now call = ap edits_of same ∙ edits-of-plain edits ∙ all in
    record {
      moment = h.moment;
      edits = those;
      may = subst (MayEditAll v) (sym those) (holds.may v user opens now call formed none holds.sound);
      before = subst (StandOn v) (sym same) stand;
      typed = ap (list_all is_typed_edit) those ∙ holds.bring v user opens now call holds.long holds.date typed formed none holds.sound holds.typed;
    }
plans-plain v user opens now call es edits (Err (fault.Code code)) holds formed typed none is stand all h = absurd h
plans-plain v user opens now call es edits (Err fault.Memory) holds formed typed none is stand all h = tt
