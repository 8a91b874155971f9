-- FPOpenVol (AFP Reference, "FPOpenVol").
use Rattle.std.specs.Prelude.{ℕ, ◌+◌, if◌then◌else◌, List, [], ◌∷◌, position, Option, Some, None, is_none, option_map, bytes_eq}
use Rattle.afp_base.specs.declared.code.Code.TheVariants.{ObjectNotFound}
use Rattle.afp_bitmap.specs.declared.params.Values.TheVariants.{Volume}
use Rattle.afp_replies.specs.declared.reply.Reply.{Reply}
use Rattle.afp_replies.specs.declared.reply.Reply.TheVariants.{Params}
use Rattle.volume_spec.specs.GetVolParms.{get_vol_parms_refusal, volume_values}
use Rattle.volume_spec.specs.VolumeState.{VolumeState}
use Rattle.afp_serial.specs.OnFork.{placed}
use Rattle.afp_serial.specs.World.{Effect, CallRow, commits_nothing, plain, with_empty_reply, refused_before, has_opened, volume_at, with_session, World, Session}

-- the id of the volume with exactly that name: ids count from 1, in house order
abbrev pub volume_named : World → List ℕ → Option ℕ
volume_named w name = option_map (λ index. index + 1) (position (λ other. bytes_eq other name) w.house.volumes)

-- the volume of an id, if there is one
abbrev pub state_named : World → Option ℕ → Option VolumeState
state_named w None = None
state_named w (Some id) = volume_at w.volumes id

-- the session with that volume open too, by rising ids; twice is once
abbrev pub with_volume : Session → ℕ → Session
with_volume s volume = record s { volumes = if has_opened s volume then s.volumes else placed (λ other. other) volume s.volumes }

-- the bits, and what they ask of the volume
abbrev pub open_vol_reply : ℕ → ℕ → VolumeState → Reply
open_vol_reply bits id v = Params bits (Volume (volume_values v id bits))

-- the volume is open in the session; a name that no volume has was refused
abbrev pub opens_volume : World → Session → ℕ → Option ℕ → Option VolumeState → Effect
opens_volume w s bits None state = with_empty_reply w
opens_volume w s bits (Some id) None = with_empty_reply w
opens_volume w s bits (Some id) (Some v) = record { world = with_session w (with_volume s id); reply = open_vol_reply bits id v }

-- it asks of the volume at least one thing, and tells it as FPGetVolParms does
abbrev pub open_vol_row : ℕ → List ℕ → CallRow
open_vol_row bits name = record {
  refusals = λ w s. refused_before (get_vol_parms_refusal bits) ((is_none (state_named w (volume_named w name)), plain ObjectNotFound) ∷ []);
  effect = λ w s. opens_volume w s bits (volume_named w name) (state_named w (volume_named w name));
  committed = commits_nothing;
}
