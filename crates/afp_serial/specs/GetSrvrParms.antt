-- FPGetSrvrParms (AFP Reference, "FPGetSrvrParms"; no volume has a password: this profile).
use Rattle.std.specs.Prelude.{ℕ, pos, List, [], map}
use Rattle.afp_replies.specs.declared.reply.Reply.TheVariants.{ServerParams}
use Rattle.afp_replies.specs.declared.volumes.VolumeEntry.{VolumeEntry}
use Rattle.afp_serial.specs.World.{CallRow, only_tells}

-- a volume by its name, with no flag set: it has neither a password nor configuration information
abbrev pub volume_entry : List ℕ → VolumeEntry
volume_entry name = record { flags = 0; name = name }

-- It is never refused: the server's time, and its volumes in house order.
abbrev pub get_srvr_parms_row : CallRow
get_srvr_parms_row = only_tells (λ w s. []) (λ w s. ServerParams (pos w.latest) (map volume_entry w.house.volumes))
