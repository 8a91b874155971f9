-- The edits of the calls of a tree, from what was found.
use Rattle.std.proofs.Common.{◌≡◌, ◌∙◌, ℕ, ℤ, Bool, true, false, List, [], ◌∷◌, ◌++◌, Some, None, Ok, sym, ap}
use Rattle.afp_names.specs.Name.{name_key}
use Rattle.afp_names.specs.Path.{PathValue}
use Rattle.volume_spec.specs.CreateFile.{replaces}
use Rattle.volume_spec.specs.Edit.{BacksUp, Comes, Goes, Moves, Renames, Sets, creates, dated, edits_at}
use Rattle.volume_spec.specs.Parms.{date_in}
use Rattle.volume_spec.specs.SetFileDirParms.{settings_in}
use Rattle.volume_spec.specs.Shared.{directory_of, name_of}
use Rattle.volume_spec.specs.VolumeCalls as call
use Rattle.volume_spec.specs.VolumeCalls.{call_edits}
use Rattle.volume_spec.specs.VolumeState.{VolumeState, new_row}
use Rattle.volume_spec.specs.Walk.{Place, child_by_key, found, new_place, one_down, one_down_or}

pub backup-edits : (v : VolumeState) (user now bits : ℕ) (tail : List ℕ) (date : ℤ) → date ≡ date_in tail → BacksUp date ∷ [] ≡ call_edits v user now (call.SetVolParms bits tail)
unfolding call_edits
backup-edits v user now bits tail date is = ap (λ d. BacksUp d ∷ []) is

module _ (v : VolumeState) (user now dir : ℕ) (path : PathValue) (id : ℕ) (at : found v.rows user dir path ≡ Ok id) where
  pub delete-edits : (up : ℕ) → up ≡ directory_of v.rows id → Goes id ∷ dated now up ∷ [] ≡ call_edits v user now (call.Delete dir path)
  unfolding call_edits
  delete-edits up is = ap (λ d. Goes id ∷ dated now d ∷ []) is ∙ sym (ap (λ r. edits_at r (λ n. Goes n ∷ dated now (directory_of v.rows n) ∷ [])) at)

  pub set-file-edits : (bits : ℕ) (tail : List ℕ) → Sets id (settings_in bits tail) ∷ [] ≡ call_edits v user now (call.SetFileParms dir bits path tail)
  unfolding call_edits
  set-file-edits bits tail = sym (ap (λ r. edits_at r (λ n. Sets n (settings_in bits tail) ∷ [])) at)

  pub set-dir-edits : (bits : ℕ) (tail : List ℕ) → Sets id (settings_in bits tail) ∷ [] ≡ call_edits v user now (call.SetDirParms dir bits path tail)
  unfolding call_edits
  set-dir-edits bits tail = sym (ap (λ r. edits_at r (λ n. Sets n (settings_in bits tail) ∷ [])) at)

  pub set-node-edits : (bits : ℕ) (tail : List ℕ) → Sets id (settings_in bits tail) ∷ [] ≡ call_edits v user now (call.SetFileDirParms dir bits path tail)
  unfolding call_edits
  set-node-edits bits tail = sym (ap (λ r. edits_at r (λ n. Sets n (settings_in bits tail) ∷ [])) at)

  pub rename-edits : (new : PathValue) (name : List ℕ) (up : ℕ) → one_down new.steps ≡ Ok name → up ≡ directory_of v.rows id → Renames id name ∷ dated now up ∷ [] ≡ call_edits v user now (call.Rename dir path new)
  unfolding call_edits
  rename-edits new name up named is =
      ap (λ d. Renames id name ∷ dated now d ∷ []) is
      ∙ sym (ap (λ r. edits_at r (λ n. edits_at (one_down new.steps) (λ m. Renames n m ∷ dated now (directory_of v.rows n) ∷ []))) at ∙ ap (λ r. edits_at r (λ m. Renames id m ∷ dated now (directory_of v.rows id) ∷ [])) named)

  pub move-edits : (to_dir : ℕ) (to_path : PathValue) (target : ℕ) (new : PathValue) (name : List ℕ) (up : ℕ) → found v.rows user to_dir to_path ≡ Ok target → one_down_or (name_of v.rows id) new.steps ≡ Ok name → up ≡ directory_of v.rows id
      → Moves id target name ∷ dated now up ∷ dated now target ∷ [] ≡ call_edits v user now (call.MoveAndRename dir path to_dir to_path new)
  unfolding call_edits
  move-edits to_dir to_path target new name up to named is =
      ap (λ d. Moves id target name ∷ dated now d ∷ dated now target ∷ []) is
      ∙ sym (ap (λ r. edits_at r (λ n. edits_at (found v.rows user to_dir to_path) (λ t. edits_at (one_down_or (name_of v.rows n) new.steps) (λ m. Moves n t m ∷ dated now (directory_of v.rows n) ∷ dated now t ∷ [])))) at
      ∙ ap (λ r. edits_at r (λ t. edits_at (one_down_or (name_of v.rows id) new.steps) (λ m. Moves id t m ∷ dated now (directory_of v.rows id) ∷ dated now t ∷ []))) to
      ∙ ap (λ r. edits_at r (λ m. Moves id target m ∷ dated now (directory_of v.rows id) ∷ dated now target ∷ [])) named)

module _ (v : VolumeState) (user now dir : ℕ) (path : PathValue) (id parent : ℕ) (name : List ℕ) (at : new_place v.rows user dir path ≡ Ok (record { dir = parent; name = name })) (is : id ≡ v.next_id) where
  pub create-dir-edits : Comes (new_row true user id parent name now) ∷ dated now parent ∷ [] ≡ call_edits v user now (call.CreateDir dir path)
  unfolding call_edits
  create-dir-edits = ap (λ n. Comes (new_row true user n parent name now) ∷ dated now parent ∷ []) is ∙ sym (ap (λ r. edits_at r (creates true user now v)) at)

  pub new-file-edits : (hard : Bool) → child_by_key v.rows parent (name_key name) ≡ None → Comes (new_row false user id parent name now) ∷ dated now parent ∷ [] ≡ call_edits v user now (call.CreateFile hard dir path)
  unfolding call_edits
  new-file-edits hard none =
      ap (λ n. Comes (new_row false user n parent name now) ∷ dated now parent ∷ []) is
      ∙ sym (ap (λ r. edits_at r (λ (place : Place). replaces (child_by_key v.rows place.dir (name_key place.name)) ++ creates false user now v place)) at
      ∙ ap (λ o. replaces o ++ creates false user now v (record { dir = parent; name = name })) none)

  pub hard-file-edits : (hard : Bool) (old : ℕ) → child_by_key v.rows parent (name_key name) ≡ Some old
      → Goes old ∷ Comes (new_row false user id parent name now) ∷ dated now parent ∷ [] ≡ call_edits v user now (call.CreateFile hard dir path)
  unfolding call_edits
  hard-file-edits hard old there =
      ap (λ n. Goes old ∷ Comes (new_row false user n parent name now) ∷ dated now parent ∷ []) is
      ∙ sym (ap (λ r. edits_at r (λ (place : Place). replaces (child_by_key v.rows place.dir (name_key place.name)) ++ creates false user now v place)) at
      ∙ ap (λ o. replaces o ++ creates false user now v (record { dir = parent; name = name })) there)
