use Rattle.std.proofs.Common.{rules, subst}
use Rattle.afp_serial.specs.Answered.{told_of}
use Rattle.afp_desk.specs.desk.Plays.{Call, DecidesAs}
use Rattle.afp_desk.specs.desk.Calls.{call_of}
use Rattle.afp_desk.proofs.OfDesk.Steps.{decides-me}
use Rattle.afp_desk.proofs.desk.turn.decide.Goals as goal

pub fetch_add-requires : goal.fetch_add-requires
fetch_add-requires g c =
    let t = c.requires.turned in
    (search rules, search rules, decides-me c.args.table.now.key.value c.args.table.now.table_id.slots c.args.seat.now.id g.E.Made.call (call_of c.args.now c.args.link c.args.ask.now.value (told_of c.args.answered.now c.args.out.now)) c.args.seat.now.me t.0 c.requires.call c.requires.served t.1 t.2)

pub returns-clause-decides : goal.returns-clause-decides
returns-clause-decides g c = subst (λ (x : Call). DecidesAs x.told x c.args.seat.now.me c.fetch_add.new.seat.me) c.requires.call c.fetch_add.ensures.2
