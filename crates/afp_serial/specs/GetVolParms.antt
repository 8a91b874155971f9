-- FPGetVolParms (AFP Reference, "FPGetVolParms").
use Rattle.std.specs.Prelude.{ℕ}
use Rattle.afp_bitmap.specs.declared.params.Values.TheVariants.{Volume}
use Rattle.afp_replies.specs.declared.reply.Reply.TheVariants.{Params}
use Rattle.volume_spec.specs.GetVolParms.{get_vol_parms_refusal, volume_values}
use Rattle.afp_serial.specs.World.{CallRow}
use Rattle.afp_serial.specs.OnVolume.{tells_of}

abbrev pub get_vol_parms_row : ℕ → ℕ → CallRow
get_vol_parms_row volume bits = tells_of volume (λ w s v. get_vol_parms_refusal bits) (λ w s v. Params bits (Volume (volume_values v volume bits)))
