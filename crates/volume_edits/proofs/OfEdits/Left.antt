-- The edits of a plan that are left.
use Rattle.std.proofs.Common.{◌≡◌, ◌==◌, ◌∙◌, ◌+◌, ◌≤◌, ℕ, zero, suc, List, [], ◌∷◌, length, ap, sym, subst, refl, arith, true, false}
use Rattle.std.specs.List.{list_all}
use Rattle.std.proofs.lemmas.Bool.{and_parts, eqb-true}
use Rattle.volume_spec.specs.Edit.{after_call, after_edits, edited}
use Rattle.volume_spec.specs.EditLaws.{MayEdit, MayEditAll}
use Rattle.volume_spec.specs.EditRanges.{is_typed_edit}
use Rattle.volume_spec.specs.Edits.{changed_at}
use Rattle.volume_spec.specs.VolumeState.{VolumeState}
use Rattle.volume_edits.specs.edits.Planned.{EditValue, StandOn, StandsOn, all_take, edits_of, takes}

-- the edits that are left may be made, there is room for them, and they lead to the same volume
pub record Left (v : VolumeState) (spare : ℕ) (es : List EditValue) (want : VolumeState) : Type 0 where
  pub may : MayEditAll v (edits_of es)
  pub before : StandOn v es
  pub typed : list_all is_typed_edit (edits_of es) ≡ true
  pub few : all_take es ≤ 1
  pub room : all_take es ≤ spare
  pub same : after_edits v (edits_of es) ≡ want

pub record First (v : VolumeState) (spare : ℕ) (e : EditValue) : Type 0 where
  pub may : MayEdit v e.edit
  pub before : StandsOn v e.edit e.before
  pub typed : is_typed_edit e.edit ≡ true
  pub room : takes e.edit ≤ spare

pub first : (v : VolumeState) (spare : ℕ) (all es : List EditValue) (e : EditValue) (want : VolumeState) → Left v spare all want → all ≡ e ∷ es → First v spare e
first v spare all es e want l is =
    let left : Left v spare (e ∷ es) want = subst (λ xs. Left v spare xs want) is l in
    let room : takes e.edit + all_take es ≤ spare = left.room in
    record {
      may = left.may.0;
      before = left.before.0;
      typed = (and_parts (is_typed_edit e.edit) (list_all is_typed_edit (edits_of es)) left.typed).0;
      room = omega arith;
    }

room-left : (take rest spare more : ℕ) → take + rest ≤ 1 → take + rest ≤ spare → (take ≡ 0 → spare ≤ more) → rest ≤ more
room-left zero rest spare more few room stays = let h : spare ≤ more = stays refl in omega arith
room-left (suc n) rest spare more few room stays = omega arith

pub on : (v next : VolumeState) (spare more : ℕ) (all es : List EditValue) (e : EditValue) (want : VolumeState) → Left v spare all want → all ≡ e ∷ es → next ≡ edited v e.edit → (takes e.edit ≡ 0 → spare ≤ more) → Left next more es want
on v next spare more all es e want l is now stays =
    let left : Left v spare (e ∷ es) want = subst (λ xs. Left v spare xs want) is l in
    let few : takes e.edit + all_take es ≤ 1 = left.few in
    record {
      may = subst (λ (w : VolumeState). MayEditAll w (edits_of es)) (sym now) left.may.1;
      before = subst (λ (w : VolumeState). StandOn w es) (sym now) left.before.1;
      typed = (and_parts (is_typed_edit e.edit) (list_all is_typed_edit (edits_of es)) left.typed).1;
      few = omega arith;
      room = room-left (takes e.edit) (all_take es) spare more left.few left.room stays;
      same = ap (λ (w : VolumeState). after_edits w (edits_of es)) now ∙ left.same;
    }

-- a plan of no edits does nothing, and one of some sets the volume's date
pub none-edits : (v : VolumeState) (now : ℕ) (es : List EditValue) → (length es == 0) ≡ true → v ≡ after_call v now (edits_of es)
none-edits v now [] none = refl
none-edits v now (e ∷ es) none = let h : suc (length es) ≡ 0 = eqb-true (suc (length es)) 0 none in absurd (omega arith)

pub carried : (old mid new : VolumeState) (now : ℕ) (es : List EditValue) → (length es == 0) ≡ false → mid ≡ after_edits old (edits_of es) → new ≡ changed_at now mid → new ≡ after_call old now (edits_of es)
carried old mid new now [] some mid_is new_is = absurd (cc)
carried old mid new now (e ∷ es) some mid_is new_is = new_is ∙ ap (changed_at now) mid_is
