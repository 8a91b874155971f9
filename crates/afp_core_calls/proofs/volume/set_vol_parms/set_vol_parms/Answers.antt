use Rattle.afp_core_calls.proofs.OfVolume.CallRows.{set_vol_parms-changes}
use Rattle.afp_core_calls.proofs.volume.set_vol_parms.set_vol_parms.Goals as goal

pub change_alone-requires : goal.change_alone-requires
change_alone-requires g c = set_vol_parms-changes c.args.call.now c.args.volume c.requires.bits c.requires.tail c.requires.is
