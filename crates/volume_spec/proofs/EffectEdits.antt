-- The effects of the calls of the tree are their edits.
use Rattle.std.proofs.Common.{◌≡◌, refl, ℕ, Bool, true, false, List, [], ◌++◌, Option, Some, None, ◌∷◌, ◌∙◌, ap, pos, ℤ}
use Rattle.std.specs.Prelude.{Result, Ok, Err}
use Rattle.afp_base.specs.declared.code.Code.{Code}
use Rattle.afp_names.specs.Name.{name_key}
use Rattle.volume_spec.specs.CreateDir.{create_dir_effect}
use Rattle.volume_spec.specs.CreateFile.{create_file_effect, without_replaced}
use Rattle.volume_spec.specs.Delete.{delete_effect}
use Rattle.volume_spec.specs.Edit.{Edit, Writes, after_call, edited, dated}
use Rattle.volume_spec.specs.ForkEffect.{fork_effect}
use Rattle.volume_spec.specs.EditLaws.{volume_call}
use Rattle.volume_spec.specs.MoveAndRename.{move_effect}
use Rattle.volume_spec.specs.Rename.{rename_effect}
use Rattle.volume_spec.specs.SetFileDirParms.{set_parms_effect, with_node_set, with_settings, privileges_by}
use Rattle.volume_spec.specs.SetVolParms.{set_vol_parms_effect}
use Rattle.volume_spec.specs.Shared.{Opened, created, done_at, directory_of}
use Rattle.volume_spec.specs.TreeSteps as tree
use Rattle.volume_spec.specs.TreeSteps.{TreeCall, tree_effect, tree_refusal}
use Rattle.volume_spec.specs.Edit.{creates, edits_at}
use Rattle.volume_spec.specs.CreateFile.{replaces}
use Rattle.volume_spec.specs.VolumeCalls.{call_edits, volume_refusal}
use Rattle.volume_spec.specs.VolumeState.{VolumeState, Privileges, Row}
use Rattle.volume_spec.specs.Walk.{Place, found, new_place, one_down, one_down_or, child_by_key}
use Rattle.volume_spec.specs.Edits.{changed_at, children_changed, renamed, with_changed, with_moved, with_new, without_node}

-- where something is found the edits are those of it, and none where it is not
at-each : {A : Type 0} (v : VolumeState) (now : ℕ) (r : Result A Code) (edits : A → List Edit) (does : A → VolumeState) → ((a : A) → after_call v now (edits a) ≡ does a) → after_call v now (edits_at r edits) ≡ done_at r v does
at-each v now (Ok a) edits does gives = gives a
at-each v now (Err code) edits does gives = refl

-- where nothing is set of a node's privileges they stay
same-privileges : (date : ℤ) (dir : Bool) (p : Privileges) → privileges_by dir (record { attributes = None; created = None; modified = Some date; backup = None; finder = None; owner = None; group = None; rights = None }) p ≡ p
unfolding privileges_by
same-privileges date true p = refl
same-privileges date false p = refl

-- a node that is dated has another modified date, and is else as it was
dated-are : (now id : ℕ) (w : VolumeState) → edited w (dated now id) ≡ children_changed now id w
unfolding edited with_settings
dated-are now id w = λ i. record w { rows = with_changed id (λ (row : Row). record row { modified = pos now; privileges = same-privileges (pos now) row.dir row.privileges i }) w.rows }

creates-are : (v : VolumeState) (user : ℕ) (dir : Bool) (now : ℕ) (place : Place) → after_call v now (creates dir user now v place) ≡ created dir user now v place
unfolding edited with_settings
creates-are v user dir now place = ap (λ (w : VolumeState). changed_at now w) (dated-are now place.dir (with_new dir user place.dir place.name now v))

replaced-are : (v : VolumeState) (user : ℕ) (now : ℕ) (place : Place) (o : Option ℕ) → after_call v now (replaces o ++ creates false user now v place) ≡ created false user now (without_replaced v o) place
unfolding edited with_settings
replaced-are v user now place None = creates-are v user false now place
replaced-are v user now place (Some old) = ap (λ (w : VolumeState). changed_at now w) (dated-are now place.dir (with_new false user place.dir place.name now (without_node old v)))

pub effects-are : (v : VolumeState) (user : ℕ) (now : ℕ) (call : TreeCall) → after_call v now (call_edits v user now (volume_call call)) ≡ tree_effect v user now call
unfolding call_edits edited with_settings create_dir_effect create_file_effect delete_effect rename_effect move_effect set_parms_effect with_node_set set_vol_parms_effect
effects-are v user now (tree.CreateDir dir path) = at-each v now (new_place v.rows user dir path) _ _ (λ place. creates-are v user true now place)
effects-are v user now (tree.CreateFile hard dir path) = at-each v now (new_place v.rows user dir path) _ _ (λ place. replaced-are v user now place (child_by_key v.rows place.dir (name_key place.name)))
effects-are v user now (tree.Delete dir path) = at-each v now (found v.rows user dir path) _ _ (λ id. ap (λ (w : VolumeState). changed_at now w) (dated-are now (directory_of v.rows id) (without_node id v)))
effects-are v user now (tree.Rename dir path new) = at-each v now (found v.rows user dir path) _ _ (λ id. at-each v now (one_down new.steps) _ _ (λ name.
    ap (λ (w : VolumeState). changed_at now w) (dated-are now (directory_of v.rows id) (renamed id name v))))
effects-are v user now (tree.MoveAndRename dir path to_dir to_path new) = at-each v now (found v.rows user dir path) _ _ (λ id. at-each v now (found v.rows user to_dir to_path) _ _ (λ target. at-each v now (one_down_or _ new.steps) _ _ (λ name.
    ap (λ (w : VolumeState). changed_at now (edited w (dated now target))) (dated-are now (directory_of v.rows id) (with_moved id target name v))
    ∙ ap (λ (w : VolumeState). changed_at now w) (dated-are now target (children_changed now (directory_of v.rows id) (with_moved id target name v))))))
effects-are v user now (tree.SetFileParms dir bits path tail) = at-each v now (found v.rows user dir path) _ _ (λ id. refl)
effects-are v user now (tree.SetDirParms dir bits path tail) = at-each v now (found v.rows user dir path) _ _ (λ id. refl)
effects-are v user now (tree.SetFileDirParms dir bits path tail) = at-each v now (found v.rows user dir path) _ _ (λ id. refl)
effects-are v user now (tree.SetVolParms bits tail) = refl

pub fork-effects-are : (v : VolumeState) (now id : ℕ) (resource : Bool) (bytes : List ℕ) → after_call v now (Writes now id resource bytes ∷ []) ≡ fork_effect now id resource bytes true v
unfolding edited fork_effect
fork-effects-are v now id resource bytes = refl

pub refusals-are : (v : VolumeState) (user : ℕ) (opens : List Opened) (call : TreeCall) → volume_refusal v user opens (volume_call call) ≡ tree_refusal v user opens call
refusals-are v user opens (tree.CreateDir dir path) = refl
refusals-are v user opens (tree.CreateFile hard dir path) = refl
refusals-are v user opens (tree.Delete dir path) = refl
refusals-are v user opens (tree.Rename dir path new) = refl
refusals-are v user opens (tree.MoveAndRename dir path to_dir to_path new) = refl
refusals-are v user opens (tree.SetFileParms dir bits path tail) = refl
refusals-are v user opens (tree.SetDirParms dir bits path tail) = refl
refusals-are v user opens (tree.SetFileDirParms dir bits path tail) = refl
refusals-are v user opens (tree.SetVolParms bits tail) = refl
