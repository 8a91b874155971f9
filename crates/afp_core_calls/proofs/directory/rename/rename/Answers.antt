use Rattle.afp_core_calls.proofs.OfDirectory.CallRows.{rename-changes}
use Rattle.afp_core_calls.proofs.directory.rename.rename.Goals as goal

pub change_alone-requires : goal.change_alone-requires
change_alone-requires g c = rename-changes c.args.call.now c.args.volume c.requires.dir c.requires.path c.requires.new_path c.requires.is
