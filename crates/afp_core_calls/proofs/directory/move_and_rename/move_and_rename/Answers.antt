use Rattle.afp_core_calls.proofs.OfDirectory.CallRows.{move_and_rename-changes}
use Rattle.afp_core_calls.proofs.directory.move_and_rename.move_and_rename.Goals as goal

pub change_alone-requires : goal.change_alone-requires
change_alone-requires g c = move_and_rename-changes c.args.call.now c.args.volume c.requires.dir c.requires.target_dir c.requires.path c.requires.target_path c.requires.new_path c.requires.is
