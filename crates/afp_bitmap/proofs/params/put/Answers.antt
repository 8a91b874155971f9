use Rattle.std.proofs.Common.{subst}
use Rattle.afp_bitmap.specs.Params.{Fits}
use Rattle.afp_bitmap.specs.Table.{rows}
use Rattle.afp_bitmap.proofs.Tables.{volume_countable, file_countable, dir_countable}
use Rattle.afp_bitmap.proofs.params.put.Goals as goal

pub put_volume-requires : goal.put_volume-requires
put_volume-requires c = volume_countable c.args.bits c.in-Volume.volume (subst (Fits c.args.bits) c.in-Volume.is c.requires)

pub put_file-requires : goal.put_file-requires
put_file-requires c = file_countable c.args.bits c.in-File.file (subst (Fits c.args.bits) c.in-File.is c.requires)

pub put_dir-requires : goal.put_dir-requires
put_dir-requires c = dir_countable c.args.bits c.in-Dir.dir (subst (Fits c.args.bits) c.in-Dir.is c.requires)

pub returns-in-Volume-clause-ok : goal.returns-in-Volume-clause-ok
unfolding rows
returns-in-Volume-clause-ok c = rw c.in-Volume.is c.put_volume.ensures.ok

pub returns-in-File-clause-ok : goal.returns-in-File-clause-ok
unfolding rows
returns-in-File-clause-ok c = rw c.in-File.is c.put_file.ensures.ok

pub returns-in-Dir-clause-ok : goal.returns-in-Dir-clause-ok
unfolding rows
returns-in-Dir-clause-ok c = rw c.in-Dir.is c.put_dir.ensures.ok
