-- Why calls pass, and their edits, from what was found.
use Rattle.std.proofs.Common.{◌≡◌, ◌∙◌, ◌==◌, ℕ, true, false, not, List, [], ◌∷◌, None, Ok, refl, sym, ap}
use Rattle.std.specs.Prelude.{is_none, nat_lt, if◌then◌else◌}
use Rattle.std.proofs.lemmas.Bool.{cond-true, cond-false}
use Rattle.afp_base.specs.Choice.{first_holding}
use Rattle.afp_base.specs.declared.code.Code.TheVariants.{AccessDenied, BadIDErr, DiskFull, IDExists, IDNotFound, ItemNotFound, ObjectTypeErr, SameObjectErr}
use Rattle.afp_names.specs.Path.{PathValue}
use Rattle.volume_spec.specs.Appls.{add_appl_refusal, remove_appl_refusal}
use Rattle.volume_spec.specs.Comments.{add_comment_refusal, does_comment, remove_comment_refusal}
use Rattle.volume_spec.specs.Desktop.{appl_at, comment_at, has_no_appl_room, has_no_icon_room}
use Rattle.volume_spec.specs.Edit.{Comments, Exchanges, Files, PutsAppl, PutsIcon, TakesAppl, edits_at}
use Rattle.volume_spec.specs.ExchangeFiles.{exchange_files_refusal, lacks_either}
use Rattle.volume_spec.specs.FileIds.{create_id_refusal, delete_id_refusal, is_filed}
use Rattle.volume_spec.specs.Icons.{add_icon_refusal}
use Rattle.volume_spec.specs.Rights.{write_right}
use Rattle.volume_spec.specs.Shared.{behind, first_or, lacks_above}
use Rattle.volume_spec.specs.SoundVolume.{has_file, icon_key}
use Rattle.volume_spec.specs.VolumeCalls as call
use Rattle.volume_spec.specs.VolumeCalls.{call_edits}
use Rattle.volume_spec.specs.VolumeState.{Icon, VolumeState, first_id}
use Rattle.volume_spec.specs.Walk.{found}

module _ (v : VolumeState) (user now dir : ℕ) (path : PathValue) (id : ℕ) (at : found v.rows user dir path ≡ Ok id) where
  pub create-id-passes : has_file v.rows id ≡ true → lacks_above v.rows user write_right id ≡ false → is_filed v.rows id ≡ false → create_id_refusal v user dir path ≡ None
  unfolding create_id_refusal
  create-id-passes file writes new =
      ap (λ r. behind r (λ n. first_holding ((not (has_file v.rows n), ObjectTypeErr) ∷ (lacks_above v.rows user write_right n, AccessDenied) ∷ (is_filed v.rows n, IDExists) ∷ []))) at
      ∙ (λ i. first_holding ((not (file i), ObjectTypeErr) ∷ (writes i, AccessDenied) ∷ (new i, IDExists) ∷ []))

  pub create-id-edits : Files id true ∷ [] ≡ call_edits v user now (call.CreateID dir path)
  unfolding call_edits
  create-id-edits = ap (λ r. edits_at r (λ n. Files n true ∷ [])) (sym at)

  pub add-appl-passes : (creator : List ℕ) → has_file v.rows id ≡ true → lacks_above v.rows user write_right id ≡ false → has_no_appl_room creator id v.appls ≡ false → add_appl_refusal v user dir creator path ≡ None
  unfolding add_appl_refusal
  add-appl-passes creator file writes room =
      ap (λ r. behind r (λ n. first_holding ((not (has_file v.rows n), ObjectTypeErr) ∷ (lacks_above v.rows user write_right n, AccessDenied) ∷ (has_no_appl_room creator n v.appls, DiskFull) ∷ []))) at
      ∙ (λ i. first_holding ((not (file i), ObjectTypeErr) ∷ (writes i, AccessDenied) ∷ (room i, DiskFull) ∷ []))

  pub add-appl-edits : (creator : List ℕ) (tag : ℕ) → PutsAppl (record { creator = creator; node = id; tag = tag }) ∷ [] ≡ call_edits v user now (call.AddAPPL dir creator tag path)
  unfolding call_edits
  add-appl-edits creator tag = ap (λ r. edits_at r (λ n. PutsAppl (record { creator = creator; node = n; tag = tag }) ∷ [])) (sym at)

  pub remove-appl-passes : (creator : List ℕ) → has_file v.rows id ≡ true → lacks_above v.rows user write_right id ≡ false → is_none (appl_at creator id v.appls) ≡ false → remove_appl_refusal v user dir creator path ≡ None
  unfolding remove_appl_refusal
  remove-appl-passes creator file writes there =
      ap (λ r. behind r (λ n. first_holding ((not (has_file v.rows n), ObjectTypeErr) ∷ (lacks_above v.rows user write_right n, AccessDenied) ∷ (is_none (appl_at creator n v.appls), ItemNotFound) ∷ []))) at
      ∙ (λ i. first_holding ((not (file i), ObjectTypeErr) ∷ (writes i, AccessDenied) ∷ (there i, ItemNotFound) ∷ []))

  pub remove-appl-edits : (creator : List ℕ) → TakesAppl creator id ∷ [] ≡ call_edits v user now (call.RemoveAPPL dir creator path)
  unfolding call_edits
  remove-appl-edits creator = ap (λ r. edits_at r (λ n. TakesAppl creator n ∷ [])) (sym at)

  pub add-comment-passes : lacks_above v.rows user write_right id ≡ false → add_comment_refusal v user dir path ≡ None
  unfolding add_comment_refusal
  add-comment-passes writes = ap (λ r. behind r (λ n. first_holding ((lacks_above v.rows user write_right n, AccessDenied) ∷ []))) at ∙ (λ i. first_holding ((writes i, AccessDenied) ∷ []))

  pub add-comment-edits : (text : List ℕ) → does_comment v id text ≡ true → Comments id text ∷ [] ≡ call_edits v user now (call.AddComment dir path text)
  unfolding call_edits
  add-comment-edits text does = sym (ap (λ r. edits_at r (λ n. if does_comment v n text then Comments n text ∷ [] else [])) at ∙ cond-true (does_comment v id text) (Comments id text ∷ []) [] does)

  pub no-comment-edits : (text : List ℕ) → does_comment v id text ≡ false → [] ≡ call_edits v user now (call.AddComment dir path text)
  unfolding call_edits
  no-comment-edits text does = sym (ap (λ r. edits_at r (λ n. if does_comment v n text then Comments n text ∷ [] else [])) at ∙ cond-false (does_comment v id text) (Comments id text ∷ []) [] does)

  pub remove-comment-passes : lacks_above v.rows user write_right id ≡ false → is_none (comment_at id v.comments) ≡ false → remove_comment_refusal v user dir path ≡ None
  unfolding remove_comment_refusal
  remove-comment-passes writes there =
      ap (λ r. behind r (λ n. first_holding ((lacks_above v.rows user write_right n, AccessDenied) ∷ (is_none (comment_at n v.comments), ItemNotFound) ∷ []))) at ∙ (λ i. first_holding ((writes i, AccessDenied) ∷ (there i, ItemNotFound) ∷ []))

  pub remove-comment-edits : Comments id [] ∷ [] ≡ call_edits v user now (call.RemoveComment dir path)
  unfolding call_edits
  remove-comment-edits = ap (λ r. edits_at r (λ n. Comments n [] ∷ [])) (sym at)

  module _ (second_dir : ℕ) (second_path : PathValue) (other : ℕ) (second_at : found v.rows user second_dir second_path ≡ Ok other) where
    pub exchange-passes : has_file v.rows id ≡ true → has_file v.rows other ≡ true → lacks_either v.rows user id ≡ false → lacks_either v.rows user other ≡ false → (id == other) ≡ false → exchange_files_refusal v user dir path second_dir second_path ≡ None
    unfolding exchange_files_refusal
    exchange-passes file second_file may second_may apart =
        ap (λ r. behind r (λ a. first_or ((not (has_file v.rows a), ObjectTypeErr) ∷ []) (behind (found v.rows user second_dir second_path) (λ b. first_holding ((not (has_file v.rows b), ObjectTypeErr) ∷ (lacks_either v.rows user a, AccessDenied) ∷ (lacks_either v.rows user b, AccessDenied) ∷ (a == b, SameObjectErr) ∷ []))))) at
        ∙ ap (λ r. first_or ((not (has_file v.rows id), ObjectTypeErr) ∷ []) (behind r (λ b. first_holding ((not (has_file v.rows b), ObjectTypeErr) ∷ (lacks_either v.rows user id, AccessDenied) ∷ (lacks_either v.rows user b, AccessDenied) ∷ (id == b, SameObjectErr) ∷ [])))) second_at
        ∙ (λ i. first_or ((not (file i), ObjectTypeErr) ∷ []) (first_holding ((not (second_file i), ObjectTypeErr) ∷ (may i, AccessDenied) ∷ (second_may i, AccessDenied) ∷ (apart i, SameObjectErr) ∷ [])))

    pub exchange-edits : Exchanges id other ∷ [] ≡ call_edits v user now (call.ExchangeFiles dir path second_dir second_path)
    unfolding call_edits
    exchange-edits = sym (ap (λ r. edits_at r (λ a. edits_at (found v.rows user second_dir second_path) (λ b. Exchanges a b ∷ []))) at ∙ ap (λ r. edits_at r (λ b. Exchanges id b ∷ [])) second_at)

pub delete-id-passes : (v : VolumeState) (user id : ℕ) → nat_lt id first_id ≡ false → is_filed v.rows id ≡ true → lacks_above v.rows user write_right id ≡ false → delete_id_refusal v user id ≡ None
unfolding delete_id_refusal
delete-id-passes v user id high filed writes = λ i. first_holding ((high i, BadIDErr) ∷ (not (filed i), IDNotFound) ∷ (writes i, AccessDenied) ∷ [])

pub delete-id-edits : (v : VolumeState) (user now id : ℕ) → Files id false ∷ [] ≡ call_edits v user now (call.DeleteID id)
unfolding call_edits
delete-id-edits v user now id = refl

pub add-icon-passes : (v : VolumeState) (icon : Icon) → has_no_icon_room (icon_key icon) v.icons ≡ false → add_icon_refusal v icon ≡ None
unfolding add_icon_refusal
add-icon-passes v icon room = λ i. first_holding ((room i, DiskFull) ∷ [])

pub add-icon-edits : (v : VolumeState) (user now : ℕ) (icon : Icon) → PutsIcon icon ∷ [] ≡ call_edits v user now (call.AddIcon icon)
unfolding call_edits
add-icon-edits v user now icon = refl
