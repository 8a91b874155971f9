-- The laws of changes (this profile).
use Rattle.std.specs.Prelude.{◌≡◌, ◌≢◌, ◌<◌, ◌^◌, ℕ, Bool, true, false, List, ◌∷◌, length, map, Some}
use Rattle.std.specs.FinMap.{get}
use Rattle.volume_spec.specs.Order.{rises}
use Rattle.record_keeper.specs.declared.record.Change.{Change}
use Rattle.record_keeper.specs.Records.{Records, changed, key_of}
use Rattle.volume_spec.specs.SoundVolume.{IsSoundVolume, code_size}
use Rattle.volume_spec.specs.VolumeState.{VolumeState}
use Rattle.volume_keeper_records.specs.Image.{kept_image}
use Rattle.volume_changes.specs.records.Differences.{differences, is_among, names}
use Rattle.volume_spec.specs.Edit.{Edit, after_call, after_edits}
use Rattle.volume_spec.specs.EditLaws.{MayEditAll}
use Rattle.volume_changes.specs.records.EditTouches.{all_touched}
use Rattle.volume_changes.specs.declared.records.touched.ForkPlace.{ForkPlace}
use Rattle.volume_changes.specs.records.Touched.{HasAll, IsWithin, Touched, fork_keys, keys_of, node_value}
use Rattle.volume_changes.specs.records.TouchedOrder.{AreInRange, AreRising}
use Rattle.volume_changes.specs.records.Values.{appl_value, block_change, block_value, comment_value, fork_at, head_value, icon_value}
use Rattle.fork_bytes.specs.Plan.{changes_of}
use Rattle.volume_keeper_records.specs.Records.{appl_record_key, block_key, comment_record_key, head_key, icon_tag, node_key}

-- changes of exactly what differs between two maps of records, each key once, in the order of its bytes
pub record IsExact (changes : List Change) (before after : Records) : Type 0 where
  pub named : (key : List ℕ) → names key changes ≡ true → get before key ≢ get after key
  pub others : (key : List ℕ) → names key changes ≡ false → get before key ≡ get after key
  pub rising : rises key_of changes ≡ true

-- every key whose values differ is among these
abbrev pub Covers : List (List ℕ) → Records → Records → Type 0
Covers keys before after = (key : List ℕ) → is_among key keys ≡ false → get before key ≡ get after key

abbrev pub DifferencesMake : Type 0
DifferencesMake = (keys : List (List ℕ)) (before after : Records) → Covers keys before after → changed (differences keys before after) before ≡ after

abbrev pub DifferencesAreExact : Type 0
DifferencesAreExact = (keys : List (List ℕ)) (before after : Records) → rises (λ (key : List ℕ). key) keys ≡ true → Covers keys before after → IsExact (differences keys before after) before after

-- Two sound volumes that are one beyond what is touched: the changes of the touched keys make the records of the one those of the other, and
-- name exactly the keys whose values differ, each once, in the order of its bytes.
abbrev pub VolumesChange : Type 0
VolumesChange = (t : Touched) (v w : VolumeState) → IsSoundVolume v → IsSoundVolume w → IsWithin t v w → changed (differences (keys_of t) (kept_image v) (kept_image w)) (kept_image v) ≡ kept_image w

abbrev pub VolumeChangesAreExact : Type 0
VolumeChangesAreExact = (t : Touched) (v w : VolumeState) → rises (λ (key : List ℕ). key) (keys_of t) ≡ true → IsSoundVolume v → IsSoundVolume w → IsWithin t v w
    → IsExact (differences (keys_of t) (kept_image v) (kept_image w)) (kept_image v) (kept_image w)

-- the edits of a call touch no more than they say
abbrev pub EditsAreWithin : Type 0
EditsAreWithin = (v : VolumeState) (edits : List Edit) → IsWithin (all_touched v edits) v (after_edits v edits)

-- beyond anything that has all that the edits of a call touch, the call changes nothing but the head
abbrev pub CallsAreWithin : Type 0
CallsAreWithin = (v : VolumeState) (now : ℕ) (edits : List Edit) (t : Touched) → HasAll t (all_touched v edits) → IsWithin t v (after_call v now edits)

-- A call whose edits may be made, on a sound volume: the changes of any rising keys that have all that its edits touch make the records before it those
-- after it, and name exactly the keys whose values differ, each once, in the order of its bytes.
abbrev pub HasTouched : List (List ℕ) → VolumeState → List Edit → Type 0
HasTouched keys v edits = (key : List ℕ) → is_among key keys ≡ false → is_among key (keys_of (all_touched v edits)) ≡ false

abbrev pub CallsChange : Type 0
CallsChange = (v : VolumeState) (now : ℕ) (edits : List Edit) (keys : List (List ℕ)) → HasTouched keys v edits → MayEditAll v edits → IsSoundVolume v
    → changed (differences keys (kept_image v) (kept_image (after_call v now edits))) (kept_image v) ≡ kept_image (after_call v now edits)

abbrev pub CallChangesAreExact : Type 0
CallChangesAreExact = (v : VolumeState) (now : ℕ) (edits : List Edit) (keys : List (List ℕ)) → rises (λ (key : List ℕ). key) keys ≡ true → HasTouched keys v edits → MayEditAll v edits → IsSoundVolume v
    → IsExact (differences keys (kept_image v) (kept_image (after_call v now edits))) (kept_image v) (kept_image (after_call v now edits))

-- what stands at a key of each kind in the records of a sound volume

abbrev pub HeadIsFound : Type 0
HeadIsFound = (v : VolumeState) → IsSoundVolume v → get (kept_image v) head_key ≡ Some (head_value v)

abbrev pub NodesAreFound : Type 0
NodesAreFound = (v : VolumeState) (id : ℕ) → IsSoundVolume v → id < 2 ^ 32 → get (kept_image v) (node_key id) ≡ node_value v id

abbrev pub BlocksAreFound : Type 0
BlocksAreFound = (v : VolumeState) (id : ℕ) (resource : Bool) (index : ℕ) → IsSoundVolume v → id < 2 ^ 32 → index < 2 ^ 32 → get (kept_image v) (block_key id resource index) ≡ block_value v id resource index

abbrev pub CommentsAreFound : Type 0
CommentsAreFound = (v : VolumeState) (node : ℕ) → IsSoundVolume v → node < 2 ^ 32 → get (kept_image v) (comment_record_key node) ≡ comment_value v node

abbrev pub IconsAreFound : Type 0
IconsAreFound = (v : VolumeState) (key : List ℕ) → IsSoundVolume v → get (kept_image v) (icon_tag ∷ key) ≡ icon_value v key

abbrev pub ApplsAreFound : Type 0
ApplsAreFound = (v : VolumeState) (creator : List ℕ) (node : ℕ) → IsSoundVolume v → length creator ≡ code_size → node < 2 ^ 32 → get (kept_image v) (appl_record_key creator node) ≡ appl_value v creator node

-- of the keys of a fork's blocks just those change whose blocks differ
abbrev pub ForksChange : Type 0
ForksChange = (v w : VolumeState) (place : ForkPlace) → IsSoundVolume v → IsSoundVolume w → place.node < 2 ^ 32
    → differences (fork_keys place) (kept_image v) (kept_image w) ≡ map (block_change place.node place.resource) (changes_of (fork_at v place.node place.resource) (fork_at w place.node place.resource))

-- keys of what is touched rise where that does
abbrev pub TouchedKeysRise : Type 0
TouchedKeysRise = (t : Touched) → AreInRange t → AreRising t → rises (λ (key : List ℕ). key) (keys_of t) ≡ true
