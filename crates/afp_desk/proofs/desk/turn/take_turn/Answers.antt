use Rattle.std.proofs.Common.{rules, sym, ◌∙◌, subst}
use Rattle.afp_serial.specs.Answered.{told_of}
use Rattle.afp_serial.specs.declared.ask.Ask.{Ask}
use Rattle.afp_core.specs.turns.Turn.{TakesTurn}
use Rattle.afp_desk.specs.desk.Plays.{DecidesAs}
use Rattle.afp_desk.specs.desk.Calls.{call_of}
use Rattle.afp_desk.proofs.OfDesk.Steps.{draws}
use Rattle.afp_desk.proofs.OfDesk.Turns.{took-view, took-slot, turns-as, turn-tells-at, ended, taken-at}
use Rattle.afp_desk.proofs.desk.turn.take_turn.Goals as goal

pub fetch_add-ticket-requires : goal.fetch_add-ticket-requires
fetch_add-ticket-requires g c = (search rules, search rules, draws c.args.table.now.key.value c.args.table.now.table_id.slots c.args.seat.now.id c.args.seat.now.me c.requires.rests.idle c.requires.rests.live)

pub turn_lent-answered-requires-clause-taken : goal.turn_lent-answered-requires-clause-taken
turn_lent-answered-requires-clause-taken g c =
    let d = c.fetch_add-ticket.ensures.2 in
    let took = taken-at c.args.seat.now.me d.ticket c.fetch_add-ticket.new.seat.me c.wait_turn.new.seat.me d.after c.requires.rests.empty c.wait_turn.ensures.takes in
    (took.core, took-slot c.args.seat.now.me.0 d.ticket c.wait_turn.new.seat.me took)

pub decide-requires-clause-turned : goal.decide-requires-clause-turned
decide-requires-clause-turned g c =
    let d = c.fetch_add-ticket.ensures.2 in
    let m = c.wait_turn.new.seat.me in
    let took = taken-at c.args.seat.now.me d.ticket c.fetch_add-ticket.new.seat.me m d.after c.requires.rests.empty c.wait_turn.ensures.takes in
    let lent = c.turn_lent-answered.ensures in
    let turned = lent.turned took.core (took-slot c.args.seat.now.me.0 d.ticket m took) in
    let told = told_of c.turn_lent-answered.result c.turn_lent-answered.new.out in
    let turn = subst (λ (a : Ask). TakesTurn took.core c.args.now c.args.link a told turned.0) (sym c.of-asked.ensures) turned.2 in (
      turned.0,
      turned.1,
      turns-as c.args.seat.now.me.0 d.ticket m took c.args.now c.args.link c.of-asked.result.value told turned.0 _ (lent.view ∙ took-view c.args.seat.now.me.0 d.ticket m took) turn,
    )

pub returns-clause-asked : goal.returns-clause-asked
returns-clause-asked g c =
    let d = c.fetch_add-ticket.ensures.2 in
    let m = c.wait_turn.new.seat.me in
    let took = taken-at c.args.seat.now.me d.ticket c.fetch_add-ticket.new.seat.me m d.after c.requires.rests.empty c.wait_turn.ensures.takes in
    let lent = c.turn_lent-answered.ensures in
    let turned = lent.turned took.core (took-slot c.args.seat.now.me.0 d.ticket m took) in
    let view = lent.view ∙ took-view c.args.seat.now.me.0 d.ticket m took in
    let told = told_of c.turn_lent-answered.result c.turn_lent-answered.new.out in
    let decided = subst (λ (a : Ask). DecidesAs told (call_of c.args.now c.args.link a told) c.turn_lent-answered.new.seat.me c.decide.new.seat.me) c.of-asked.ensures c.decide.ensures.decides in
    let dec = subst (DecidesAs told (call_of c.args.now c.args.link c.args.ask told) c.turn_lent-answered.new.seat.me) (sym c.wake_others.ensures.stays) decided in
    let all = ended c.args.seat.now.me.0 d.ticket m took c.args.now c.args.link c.args.ask told c.turn_lent-answered.new.seat.me c.wake_others.new.seat.me c.requires.rests.live c.requires.rests.settled c.requires.rests.sound view dec in
    record {
      asked = all.0;
      tells = turn-tells-at c.args.seat.now.me.0 d.ticket m took c.args.now c.args.link c.args.ask told turned.0 c.requires.rests.sound turned.2;
      share = all.1;
      start = all.2;
    }

pub returns-clause-rests : goal.returns-clause-rests
returns-clause-rests g c =
    let d = c.fetch_add-ticket.ensures.2 in
    let m = c.wait_turn.new.seat.me in
    let took = taken-at c.args.seat.now.me d.ticket c.fetch_add-ticket.new.seat.me m d.after c.requires.rests.empty c.wait_turn.ensures.takes in
    let view = c.turn_lent-answered.ensures.view ∙ took-view c.args.seat.now.me.0 d.ticket m took in
    let told = told_of c.turn_lent-answered.result c.turn_lent-answered.new.out in
    let decided = subst (λ (a : Ask). DecidesAs told (call_of c.args.now c.args.link a told) c.turn_lent-answered.new.seat.me c.decide.new.seat.me) c.of-asked.ensures c.decide.ensures.decides in
    let dec = subst (DecidesAs told (call_of c.args.now c.args.link c.args.ask told) c.turn_lent-answered.new.seat.me) (sym c.wake_others.ensures.stays) decided in
    let all = ended c.args.seat.now.me.0 d.ticket m took c.args.now c.args.link c.args.ask told c.turn_lent-answered.new.seat.me c.wake_others.new.seat.me c.requires.rests.live c.requires.rests.settled c.requires.rests.sound view dec in
    all.3
