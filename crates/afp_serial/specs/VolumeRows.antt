-- What the rows of the calls share that change one volume by edits: they are refused as the volume refuses, and their effect is their edits, which are
-- committed to the volume's keeper. A call with no edit changes nothing, and commits nothing (this profile).
use Rattle.std.specs.Prelude.{ℕ, List, [], ◌∷◌, Option, None, Some}
use Rattle.afp_replies.specs.declared.reply.Reply.{Reply}
use Rattle.volume_spec.specs.Edit.{Edit, after_call}
use Rattle.volume_spec.specs.VolumeCalls.{VolumeCall, call_edits, volume_refusal}
use Rattle.volume_spec.specs.VolumeState.{VolumeState}
use Rattle.afp_serial.specs.OnVolume.{done_on, keeper_of, on_volume, opened_on, with_volume_state}
use Rattle.afp_serial.specs.World.{CallRow, World, user_of, volume_at}

-- the world in which a volume had these edits, and the keeper that they are committed to
abbrev pub with_edits : World → ℕ → VolumeState → List Edit → World
with_edits w volume v [] = w
with_edits w volume v (e ∷ es) = with_volume_state w volume (after_call v w.latest (e ∷ es))

abbrev pub keeper_of_edits : ℕ → List Edit → Option ℕ
keeper_of_edits volume [] = None
keeper_of_edits volume (e ∷ es) = keeper_of volume

-- the edits on a volume, none where it is not there
abbrev pub edits_on : Option VolumeState → (VolumeState → List Edit) → List Edit
edits_on None edits = []
edits_on (Some v) edits = edits v

-- the row of a call that changes a volume by edits; `reply` is for the user, of the volume as it was before the call
abbrev pub changes_volume : ℕ → VolumeCall → (ℕ → VolumeState → Reply) → CallRow
changes_volume volume call reply = record {
  refusals = λ w s. on_volume w s volume (λ v. volume_refusal v (user_of s) (opened_on w volume) call);
  effect = λ w s. done_on (volume_at w.volumes volume) w (λ v. record { world = with_edits w volume v (call_edits v (user_of s) w.latest call); reply = reply (user_of s) v });
  committed = λ w s. keeper_of_edits volume (edits_on (volume_at w.volumes volume) (λ v. call_edits v (user_of s) w.latest call));
}
