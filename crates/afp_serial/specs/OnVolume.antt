-- What the rows of calls on one volume share: the volume's own refusals behind the session's, its next state in the world, its open forks, and its keeper (this profile).
use Rattle.std.specs.Prelude.{ℕ, zero, suc, ◌==◌, List, [], ◌∷◌, filter, map, slice_set, Option, None, Some}
use Rattle.afp_base.specs.declared.code.Code.{Code}
use Rattle.afp_base.specs.declared.code.Code.TheVariants.{ParamErr}
use Rattle.afp_replies.specs.declared.reply.Reply.{Reply}
use Rattle.volume_spec.specs.Shared.{Opened, refused_else}
use Rattle.volume_spec.specs.TreeSteps.{TreeCall, tree_refusal, tree_effect}
use Rattle.volume_spec.specs.VolumeState.{VolumeState}
use Rattle.afp_serial.specs.World.{Effect, Refusal, CallRow, commits_nothing, refused_before, with_empty_reply, vol, volume_at, World, Session, OpenFork, user_of}

-- what is refused of a volume; one that is not there counts as not opened
abbrev pub refused_on : Option VolumeState → (VolumeState → Option Code) → Option Code
refused_on None refuses = Some ParamErr
refused_on (Some v) refuses = refuses v

-- the refusals on a volume: the session has to have opened it, and then it is as the volume refuses
abbrev pub on_volume : World → Session → ℕ → (VolumeState → Option Code) → List Refusal
on_volume w s volume refuses = vol s volume ∷ refused_before (refused_on (volume_at w.volumes volume) refuses) []

-- the open forks of a volume, of all sessions
unfoldable pub opened_on : World → ℕ → List Opened
opened_on w volume = map (λ (o : OpenFork). record { node = o.fork.node; resource = o.fork.resource }) (filter (λ o. o.fork.volume == volume) w.opens)

-- volumes with another state of the volume of this id: ids count from 1, in house order
abbrev pub with_state : List VolumeState → ℕ → VolumeState → List VolumeState
with_state volumes zero v = volumes
with_state volumes (suc index) v = slice_set volumes index v

-- the world with another state of the volume of this id
abbrev pub with_volume_state : World → ℕ → VolumeState → World
with_volume_state w volume v = record w { volumes = with_state w.volumes volume v }

-- what is done on a volume, and nothing where it is not there
abbrev pub done_on : Option VolumeState → World → (VolumeState → Effect) → Effect
done_on None w does = with_empty_reply w
done_on (Some v) w does = does v

-- the index, from 0 in house order, of the keeper of the volume of this id
abbrev pub keeper_of : ℕ → Option ℕ
keeper_of zero = None
keeper_of (suc index) = Some index

-- the row of a call that tells something of a volume, and changes nothing
abbrev pub tells_of : ℕ → (World → Session → VolumeState → Option Code) → (World → Session → VolumeState → Reply) → CallRow
tells_of volume refuses reply = record {
  refusals = λ w s. on_volume w s volume (refuses w s);
  effect = λ w s. done_on (volume_at w.volumes volume) w (λ v. record { world = w; reply = reply w s v });
  committed = commits_nothing;
}

-- the row of a call that changes the tree of a volume, and commits that to the volume's keeper; behind what the volume refuses it may be refused as `behind`
-- has it; `reply` is of the volume as it was before the call
abbrev pub changes_tree_unless : (World → Option Code) → ℕ → TreeCall → (VolumeState → Reply) → CallRow
changes_tree_unless behind volume call reply = record {
  refusals = λ w s. on_volume w s volume (λ v. refused_else (behind w) (tree_refusal v (user_of s) (opened_on w volume) call));
  effect = λ w s. done_on (volume_at w.volumes volume) w (λ v. record { world = with_volume_state w volume (tree_effect v (user_of s) w.latest call); reply = reply v });
  committed = λ w s. keeper_of volume;
}

-- where there is nothing behind that
abbrev pub changes_tree : ℕ → TreeCall → (VolumeState → Reply) → CallRow
changes_tree volume call reply = changes_tree_unless (λ w. None) volume call reply
