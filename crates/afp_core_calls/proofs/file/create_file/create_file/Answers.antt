use Rattle.afp_core_calls.proofs.OfFile.FileRows.{create_file-changes}
use Rattle.afp_core_calls.proofs.file.create_file.create_file.Goals as goal

pub change_alone-requires : goal.change_alone-requires
change_alone-requires g c = create_file-changes c.args.call.now c.requires.flag c.args.volume c.requires.dir c.requires.path c.requires.is
