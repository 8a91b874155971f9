use Rattle.client_script_commands.proofs.OfParcels.HeldLemmas.{held_in}
use Rattle.client_script_commands.proofs.parcels.held.parcel_of.Goals as goal

pub returns-in-Ok-clause-parcel : goal.returns-in-Ok-clause-parcel
returns-in-Ok-clause-parcel c = held_in c.args.bytes.now _ _ c.one_file_for_each_parcel.ensures c.in-Ok.ensures.parcel
