use Rattle.afp_core_calls.proofs.OfDirectory.CallRows.{delete-changes}
use Rattle.afp_core_calls.proofs.directory.delete.delete.Goals as goal

pub change_alone-requires : goal.change_alone-requires
change_alone-requires g c = delete-changes c.args.call.now c.args.volume c.requires.dir c.requires.path c.requires.is
