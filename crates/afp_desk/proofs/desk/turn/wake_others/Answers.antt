use Rattle.std.proofs.Common.{rules}
use Rattle.afp_desk.proofs.OfDesk.Steps.{glances}
use Rattle.afp_desk.proofs.desk.turn.wake_others.Goals as goal

pub load-requires : goal.load-requires
load-requires g c = (search rules, search rules, glances c.args.table.now.key.value c.args.table.now.table_id.slots c.args.seat.now.id c.args.seat.now.me)
