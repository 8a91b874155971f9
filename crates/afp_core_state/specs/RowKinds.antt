-- Kinds of rows of calls on a volume that the session has open (this profile).
use Rattle.std.specs.Prelude.{◌≡◌, ℕ, false, List, Option, None}
use Rattle.afp_base.specs.declared.code.Code.{Code}
use Rattle.afp_calls_grammar.specs.declared.grammar.call.Call.{Call}
use Rattle.afp_replies.specs.Replies.{canonical_reply}
use Rattle.afp_replies.specs.declared.reply.Reply.{Reply}
use Rattle.afp_serial.specs.Rows.{ends_session, row}
use Rattle.afp_serial.specs.OnVolume.{tells_of}
use Rattle.afp_serial.specs.VolumeRows.{changes_volume}
use Rattle.afp_serial.specs.World.{World, user_of}
use Rattle.volume_spec.specs.VolumeCalls.{VolumeCall}
use Rattle.volume_spec.specs.VolumeState.{VolumeState}

-- the call's row is this change of the volume, with this reply to a user, and its session goes on
pub record ChangesVolume (call : Call) (volume : ℕ) (asked : VolumeCall) (reply : ℕ → VolumeState → Reply) : Type 0 where
  pub row_is : row call ≡ changes_volume volume asked reply
  pub goes_on : ends_session call ≡ false

-- the bytes are what is told of the volume, where nothing is refused
abbrev pub IsToldWhereDone : Option Code → List ℕ → Reply → Type 0
IsToldWhereDone refusal block reply = refusal ≡ None → block ≡ canonical_reply reply

-- the call's row tells a user something of this volume, and its session goes on
pub record TellsOf (call : Call) (volume : ℕ) (refuses : World → ℕ → VolumeState → Option Code) (reply : World → ℕ → VolumeState → Reply) : Type 0 where
  pub row_is : row call ≡ tells_of volume (λ w s v. refuses w (user_of s) v) (λ w s v. reply w (user_of s) v)
  pub goes_on : ends_session call ≡ false
