-- FPOpenDT and FPCloseDT (AFP Reference, under these names). The number of a volume's desktop database is the volume's, and holds while the volume is
-- open: nothing is opened or closed (this profile).
use Rattle.std.specs.Prelude.{ℕ, None}
use Rattle.afp_replies.specs.declared.reply.Reply.TheVariants.{Desk, Empty}
use Rattle.afp_serial.specs.OnVolume.{tells_of}
use Rattle.afp_serial.specs.World.{CallRow}

abbrev pub open_dt_row : ℕ → CallRow
open_dt_row volume = tells_of volume (λ w s v. None) (λ w s v. Desk volume)

abbrev pub close_dt_row : ℕ → CallRow
close_dt_row dt = tells_of dt (λ w s v. None) (λ w s v. Empty)
