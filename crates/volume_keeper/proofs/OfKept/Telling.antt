-- What is told of a volume does not depend on its desktop database.
use Rattle.std.proofs.Common.{Bool, false, [], ◌∷◌, ◌≡◌, ◌∙◌, ap, sym, refl, true, ℕ, List, ◌++◌, Option, Some, None}
use Rattle.std.specs.Prelude.{Result, Ok, Err, OnOk, IfOk, is_some, ◌==◌, ◌&&◌, if◌then◌else◌}
use Rattle.afp_base.specs.declared.code.Code.{Code}
use Rattle.afp_base.specs.declared.code.Code.TheVariants.{BitmapErr}
use Rattle.afp_bitmap.specs.Bits.{file_mask, dir_mask, is_outside}
use Rattle.afp_base.specs.declared.ids.NodeId.{NodeId}
use Rattle.afp_bitmap.specs.declared.params.Values.{Values}
use Rattle.afp_names.specs.Path.{PathValue}
use Rattle.afp_replies.specs.Replies.{canonical_reply}
use Rattle.afp_replies.specs.declared.reply.Reply.{Reply}
use Rattle.afp_replies.specs.declared.reply.Reply.TheVariants.{Empty, FileDirParams}
use Rattle.afp_serial.specs.Enumerate.{enumerate_reply}
use Rattle.afp_serial.specs.ListReply.{list_reply}
use Rattle.afp_serial.specs.GetFileDirParms.{get_file_dir_parms_reply}
use Rattle.volume_spec.specs.Shared.{Opened, behind, done_at, first_or}
use Rattle.volume_spec.specs.Enumerate.{ListAsked, entries, enumerate_refusal}
use Rattle.volume_spec.specs.Walk.{found}
use Rattle.volume_spec.specs.DesktopLaws.{with_desktop}
use Rattle.volume_spec.specs.GetFileDirParms.{get_file_dir_parms_refusal, get_file_dir_parms_values}
use Rattle.volume_spec.specs.GetVolParms.{free_bytes, volume_values}
use Rattle.volume_spec.specs.OpenDir.{open_dir_refusal, open_dir_id}
use Rattle.volume_spec.specs.OpenFork.{open_fork_file, open_fork_refusal}
use Rattle.volume_spec.specs.SoundVolume.{IsSoundVolume}
use Rattle.volume_spec.specs.ValueLaws.{FoundIsTold}
use Rattle.volume_spec.specs.VolumeState.{Appl, Comment, Icon, VolumeState}
use Rattle.volume_tree.specs.Answered.{Refuses}
use Rattle.volume_tree.specs.declared.resolve.PlanFault.{PlanFault}

module _ (v whole : VolumeState) (comments : List Comment) (icons : List Icon) (appls : List Appl) (is : with_desktop v comments icons appls ≡ whole) where
  pub volume_same : (id bits : ℕ) → volume_values v id bits ≡ volume_values whole id bits
  unfolding volume_values free_bytes
  volume_same id bits = ap (λ (w : VolumeState). volume_values w id bits) is

  pub open_same : (user dir : ℕ) (path : PathValue) → open_dir_refusal v user dir path ≡ open_dir_refusal whole user dir path
  unfolding open_dir_refusal
  open_same user dir path = ap (λ (w : VolumeState). open_dir_refusal w user dir path) is

  pub id_same : (user dir : ℕ) (path : PathValue) → open_dir_id v user dir path ≡ open_dir_id whole user dir path
  unfolding open_dir_id
  id_same user dir path = ap (λ (w : VolumeState). open_dir_id w user dir path) is

  pub fork_same : (user bits : ℕ) (reads writes : Bool) (dir : ℕ) (path : PathValue) → open_fork_refusal v user bits reads writes dir path ≡ open_fork_refusal whole user bits reads writes dir path
  unfolding open_fork_refusal
  fork_same user bits reads writes dir path = ap (λ (w : VolumeState). open_fork_refusal w user bits reads writes dir path) is

  pub file_same : (user dir : ℕ) (path : PathValue) → open_fork_file v user dir path ≡ open_fork_file whole user dir path
  unfolding open_fork_file
  file_same user dir path = ap (λ (w : VolumeState). open_fork_file w user dir path) is

  pub rows_same : v.rows ≡ whole.rows
  rows_same = ap (λ (w : VolumeState). w.rows) is

  pub node_same : (user file_bits dir_bits dir : ℕ) (path : PathValue) → get_file_dir_parms_refusal v user file_bits dir_bits dir path ≡ get_file_dir_parms_refusal whole user file_bits dir_bits dir path
  unfolding get_file_dir_parms_refusal
  node_same user file_bits dir_bits dir path = ap (λ (w : VolumeState). get_file_dir_parms_refusal w user file_bits dir_bits dir path) is

  pub list_same : (opens : List Opened) (asked : ListAsked) (dir : ℕ) (path : PathValue) → enumerate_refusal v opens asked dir path ≡ enumerate_refusal whole opens asked dir path
  unfolding enumerate_refusal
  list_same opens asked dir path = ap (λ (w : VolumeState). enumerate_refusal w opens asked dir path) is

  pub reply_same : (opens : List Opened) (asked : ListAsked) (dir : ℕ) (path : PathValue) → enumerate_reply v opens asked dir path ≡ enumerate_reply whole opens asked dir path
  unfolding enumerate_reply
  reply_same opens asked dir path = ap (λ (w : VolumeState). enumerate_reply w opens asked dir path) is

  pub values_same : (user : ℕ) (opens : List Opened) (file_bits dir_bits dir : ℕ) (path : PathValue) → get_file_dir_parms_values v user opens file_bits dir_bits dir path ≡ get_file_dir_parms_values whole user opens file_bits dir_bits dir path
  unfolding get_file_dir_parms_values
  values_same user opens file_bits dir_bits dir path = ap (λ (w : VolumeState). get_file_dir_parms_values w user opens file_bits dir_bits dir path) is

-- where the id that is told is that of the volume without its desktop database
pub id_told : (result : Result NodeId PlanFault) (a b : Option ℕ) → a ≡ b → IfOk result (λ id. a ≡ Some id.0) → IfOk result (λ id. b ≡ Some id.0)
id_told (Ok id) a b same told = sym same ∙ told
id_told (Err fault) a b same told = told

-- what holds of an id that is told
pub told_id : (result : Result NodeId PlanFault) (P Q : NodeId → Type 0) → IfOk result P → ((id : NodeId) → P id → Q id) → IfOk result Q
told_id (Ok id) P Q told more = more id told
told_id (Err fault) P Q told more = tt

-- where a node is told of, the reply has its values
pub node_told : FoundIsTold → (v : VolumeState) → IsSoundVolume v → (user : ℕ) (opens : List Opened) (file_bits dir_bits dir : ℕ) (path : PathValue) (result : Result (Unit {0}) PlanFault) → Refuses result (get_file_dir_parms_refusal v user file_bits dir_bits dir path)
    → (out old : List ℕ) → OnOk result ((values : Values) → get_file_dir_parms_values v user opens file_bits dir_bits dir path ≡ Some values → out ≡ old ++ canonical_reply (FileDirParams file_bits dir_bits values))
    → OnOk result (out ≡ old ++ canonical_reply (get_file_dir_parms_reply file_bits dir_bits (get_file_dir_parms_values v user opens file_bits dir_bits dir path)))
node_told law v sound user opens file_bits dir_bits dir path (Err fault) refuses out old told = told
node_told law v sound user opens file_bits dir_bits dir path (Ok done) refuses out old told =
    there (get_file_dir_parms_values v user opens file_bits dir_bits dir path) (law v user opens file_bits dir_bits dir path refuses sound) told
  where
    there : (o : Option Values) → is_some o ≡ true → ((values : Values) → o ≡ Some values → out ≡ old ++ canonical_reply (FileDirParams file_bits dir_bits values)) → out ≡ old ++ canonical_reply (get_file_dir_parms_reply file_bits dir_bits o)
    there None e told = absurd (cc)
    there (Some values) e told = told values refl

-- what is refused behind a walk, and nothing is, has been found
first_some : (rows : List (Bool × Code)) (code : Code) → first_or rows (Some code) ≡ None → ⊥
first_some [] code none = absurd (cc)
first_some (row ∷ rows) code none = elim row.0 as (λ b. (if b then Some row.1 else first_or rows (Some code)) ≡ None → ⊥) [
  | true ↦ λ e. absurd (cc)
  | false ↦ λ e. first_some rows code e
] none

found_told : (rows : List (Bool × Code)) (walked : Result ℕ Code) (refused : ℕ → Option Code) (reply : ℕ → Reply) (out old : List ℕ) → first_or rows (behind walked refused) ≡ None
    → ((id : ℕ) → walked ≡ Ok id → out ≡ old ++ canonical_reply (reply id)) → out ≡ old ++ canonical_reply (done_at walked Empty reply)
found_told rows (Ok id) refused reply out old none told = told id refl
found_told rows (Err code) refused reply out old none told = absurd (first_some rows code none)

-- what is refused of a list before the walk
abbrev list_bits : ListAsked → List (Bool × Code)
list_bits asked = (is_outside file_mask asked.file_bits, BitmapErr) ∷ (is_outside dir_mask asked.dir_bits, BitmapErr) ∷ ((asked.file_bits == 0) && (asked.dir_bits == 0), BitmapErr) ∷ []

-- where a list is not refused, the reply is that of the directory that was found
pub list_told : (v : VolumeState) (opens : List Opened) (asked : ListAsked) (dir : ℕ) (path : PathValue) (result : Result (Unit {0}) PlanFault) → Refuses result (enumerate_refusal v opens asked dir path)
    → (out old : List ℕ) → OnOk result ((id : ℕ) → found v.rows asked.user dir path ≡ Ok id → out ≡ old ++ canonical_reply (list_reply v.rows opens asked (entries v.rows opens asked id)))
    → OnOk result (out ≡ old ++ canonical_reply (enumerate_reply v opens asked dir path))
unfolding enumerate_refusal enumerate_reply
list_told v opens asked dir path (Err fault) refuses out old told = told
list_told v opens asked dir path (Ok done) refuses out old told =
    found_told (list_bits asked) (found v.rows asked.user dir path) _ (λ id. list_reply v.rows opens asked (entries v.rows opens asked id)) out old refuses told
