use Rattle.std.proofs.Common.{rules}
use Rattle.afp_desk.proofs.OfDesk.Passing.{idle_of}
use Rattle.afp_desk.proofs.OfDesk.Steps.{splits}
use Rattle.afp_desk.proofs.desk.desk.Desk.split.Goals as goal

pub split_seat-seat-requires : goal.split_seat-seat-requires
split_seat-seat-requires g c =
    let p = c.args.pass.now in
    (search rules, search rules, splits c.args.self.now.table.shared.key.value p.seat.id p.seat.me.0 (idle_of p.seat.me.0.stage p.idle) c.requires.two)
