use Rattle.afp_core_calls.proofs.OfFile.FileRows.{set_file_parms-changes}
use Rattle.afp_core_calls.proofs.file.set_file_parms.set_file_parms.Goals as goal

pub change_alone-requires : goal.change_alone-requires
change_alone-requires g c = set_file_parms-changes c.args.call.now c.args.volume c.requires.dir c.requires.bits c.requires.path c.requires.tail c.requires.is
