use Rattle.afp_bitmap.proofs.Formed.{formed_asked}
use Rattle.afp_bitmap.proofs.Tables.{file_formed, file_fixed, file_sized}
use Rattle.afp_bitmap.proofs.file.put_file.Goals as goal

pub put_rows-requires-clause-formed : goal.put_rows-requires-clause-formed
put_rows-requires-clause-formed c = rw c.rows_of-rows.ensures.rows (formed_asked c.args.bits _ (file_formed c.args.values.now))

pub put_rows-requires-clause-small : goal.put_rows-requires-clause-small
put_rows-requires-clause-small c = rw c.rows_of-rows.ensures.rows (file_fixed c.args.bits c.args.values.now)

pub put_rows-requires-clause-names : goal.put_rows-requires-clause-names
put_rows-requires-clause-names c = rw c.rows_of-rows.ensures.rows c.requires

pub put_rows-requires-clause-sized : goal.put_rows-requires-clause-sized
put_rows-requires-clause-sized c = rw c.rows_of-rows.ensures.rows (file_sized c.args.bits c.args.values.now c.rows_of-rows.ensures.finder)
