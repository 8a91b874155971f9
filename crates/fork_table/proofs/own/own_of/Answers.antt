use Rattle.fork_table.proofs.Owning.{sessions_rise}
use Rattle.fork_table.proofs.own.own_of.Goals as goal

pub own_places-first-requires : goal.own_places-first-requires
own_places-first-requires c = sessions_rise c.args.own.now c.requires
