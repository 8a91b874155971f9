use Rattle.afp_bitmap.proofs.Formed.{formed_asked}
use Rattle.afp_bitmap.proofs.Tables.{volume_formed, volume_fixed, volume_sized}
use Rattle.afp_bitmap.proofs.volume.put_volume.Goals as goal

pub put_rows-requires-clause-formed : goal.put_rows-requires-clause-formed
put_rows-requires-clause-formed c = rw c.rows_of-rows.ensures (formed_asked c.args.bits _ (volume_formed c.args.values.now))

pub put_rows-requires-clause-small : goal.put_rows-requires-clause-small
put_rows-requires-clause-small c = rw c.rows_of-rows.ensures (volume_fixed c.args.bits c.args.values.now)

pub put_rows-requires-clause-names : goal.put_rows-requires-clause-names
put_rows-requires-clause-names c = rw c.rows_of-rows.ensures c.requires

pub put_rows-requires-clause-sized : goal.put_rows-requires-clause-sized
put_rows-requires-clause-sized c = rw c.rows_of-rows.ensures (volume_sized c.args.bits c.args.values.now)
