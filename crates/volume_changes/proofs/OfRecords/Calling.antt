-- What a call changes in the records of a volume.
use Rattle.std.proofs.Common.{◌≡◌, ℕ, true, List, [], ◌∷◌}
use Rattle.volume_spec.specs.Edit.{Edit, after_call, after_edits}
use Rattle.volume_spec.specs.EditLaws.{CallKeepsSound, MayEditAll}
use Rattle.volume_spec.specs.Edits.{changed_at}
use Rattle.volume_spec.specs.Order.{rises}
use Rattle.volume_spec.specs.SoundVolume.{IsSoundVolume}
use Rattle.volume_spec.specs.VolumeState.{VolumeState}
use Rattle.record_keeper.specs.Records.{changed}
use Rattle.volume_keeper_records.specs.Image.{kept_image}
use Rattle.volume_keeper_records.proofs.ForkParts.{ForkLaw}
use Rattle.volume_changes.specs.records.Differences.{differences}
use Rattle.volume_changes.specs.records.EditTouches.{all_touched}
use Rattle.volume_changes.specs.records.Laws.{Covers, EditsAreWithin, HasTouched, IsExact}
use Rattle.volume_changes.specs.records.Touched.{HasAll, IsWithin, Touched}
use Rattle.volume_changes.proofs.OfRecords.Changing.{facts}
use Rattle.volume_changes.proofs.OfRecords.Covering.{covers}
use Rattle.volume_changes.proofs.OfRecords.Exact.{exact, makes}

-- the volume's own date is of no node
dated-within : (t : Touched) (v w : VolumeState) (now : ℕ) → IsWithin t v w → IsWithin t v (changed_at now w)
dated-within t v w now h = record { nodes = h.nodes; forks = h.forks; comments = h.comments; icons = h.icons; appls = h.appls }

pub wider : (t u : Touched) (v w : VolumeState) → HasAll t u → IsWithin u v w → IsWithin t v w
wider t u v w has h = record {
  nodes = λ id none. h.nodes id (has.nodes id none);
  forks = λ id resource none. h.forks id resource (has.forks id resource none);
  comments = λ node none. h.comments node (has.comments node none);
  icons = λ key none. h.icons key (has.icons key none);
  appls = λ creator node none. h.appls creator node (has.appls creator node none);
}

pub call-within : EditsAreWithin → (v : VolumeState) (now : ℕ) (edits : List Edit) → IsWithin (all_touched v edits) v (after_call v now edits)
call-within law v now [] = law v []
call-within law v now (e ∷ es) = dated-within (all_touched v (e ∷ es)) v (after_edits v (e ∷ es)) now (law v (e ∷ es))

call-covers : ForkLaw → EditsAreWithin → CallKeepsSound → (v : VolumeState) (now : ℕ) (edits : List Edit) (keys : List (List ℕ)) → HasTouched keys v edits → MayEditAll v edits → IsSoundVolume v → Covers keys (kept_image v) (kept_image (after_call v now edits))
call-covers fork within keeps v now edits keys has may s key none =
    covers (all_touched v edits) v (after_call v now edits) (facts fork v s) (facts fork (after_call v now edits) (keeps v now edits may s)) (call-within within v now edits) key (has key none)

pub calls-change : ForkLaw → EditsAreWithin → CallKeepsSound → (v : VolumeState) (now : ℕ) (edits : List Edit) (keys : List (List ℕ)) → HasTouched keys v edits → MayEditAll v edits → IsSoundVolume v
    → changed (differences keys (kept_image v) (kept_image (after_call v now edits))) (kept_image v) ≡ kept_image (after_call v now edits)
calls-change fork within keeps v now edits keys has may s = makes (kept_image v) (kept_image (after_call v now edits)) keys (call-covers fork within keeps v now edits keys has may s)

pub calls-exact : ForkLaw → EditsAreWithin → CallKeepsSound → (v : VolumeState) (now : ℕ) (edits : List Edit) (keys : List (List ℕ)) → rises (λ (key : List ℕ). key) keys ≡ true → HasTouched keys v edits → MayEditAll v edits → IsSoundVolume v
    → IsExact (differences keys (kept_image v) (kept_image (after_call v now edits))) (kept_image v) (kept_image (after_call v now edits))
calls-exact fork within keeps v now edits keys rising has may s = exact (kept_image v) (kept_image (after_call v now edits)) keys rising (call-covers fork within keeps v now edits keys has may s)
