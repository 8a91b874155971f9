use Rattle.std.proofs.Common.{rules, arith}
use Rattle.afp_desk.proofs.OfDesk.Passing.{begins-at}
use Rattle.afp_desk.proofs.desk.desk.Desk.new.Goals as goal

pub new-requires : goal.new-requires
new-requires g c =
    let counts = c.counts-sound.ensures in
    begins-at c.args.core c.of-start.result.value c.push_reserved.new.self.items c.of-start.ensures (search rules) (omega (arith, counts)) (omega (arith, counts))
