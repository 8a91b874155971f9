use Rattle.std.proofs.Common.{rules, ◌∙◌}
use Rattle.afp_desk.proofs.OfDesk.Steps.{looks-me}
use Rattle.afp_desk.proofs.desk.turn.wait_turn.Goals as goal

pub load-found-requires : goal.load-found-requires
load-found-requires g c =
    let i = c.loop.invariant in
    (i.0 ∙ c.requires.table.0, search rules, looks-me c.args.table.now.key.value c.args.table.now.table_id.slots c.loop.seat.id c.args.seat.now.me c.loop.seat.me c.args.ticket i.2 c.requires.waits)
