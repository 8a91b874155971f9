use Rattle.afp_core_calls.proofs.OfDirectory.CallRows.{set_file_dir_parms-changes}
use Rattle.afp_core_calls.proofs.directory.set_file_dir_parms.set_file_dir_parms.Goals as goal

pub change_alone-requires : goal.change_alone-requires
change_alone-requires g c = set_file_dir_parms-changes c.args.call.now c.args.volume c.requires.dir c.requires.bits c.requires.path c.requires.tail c.requires.is
