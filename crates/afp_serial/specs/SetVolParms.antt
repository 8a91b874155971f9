-- FPSetVolParms (AFP Reference, "FPSetVolParms").
use Rattle.std.specs.Prelude.{ℕ, List}
use Rattle.afp_replies.specs.declared.reply.Reply.TheVariants.{Empty}
use Rattle.volume_spec.specs.TreeSteps.{SetVolParms}
use Rattle.afp_serial.specs.World.{CallRow}
use Rattle.afp_serial.specs.OnVolume.{changes_tree}

abbrev pub set_vol_parms_row : ℕ → ℕ → List ℕ → CallRow
set_vol_parms_row volume bits tail = changes_tree volume (SetVolParms bits tail) (λ v. Empty)
