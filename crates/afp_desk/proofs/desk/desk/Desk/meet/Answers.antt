use Rattle.std.proofs.Common.{rules, ap, arith}
use Rattle.afp_desk.specs.desk.Plays.{Mine}
use Rattle.afp_desk.specs.desk.Rule.{both_of}
use Rattle.afp_desk.proofs.OfDesk.Passing.{idle_of, empty_of, settles-me, met-at}
use Rattle.afp_desk.proofs.OfDesk.Steps.{joins}
use Rattle.afp_desk.proofs.desk.desk.Desk.meet.Goals as goal

pub join_seat-requires : goal.join_seat-requires
join_seat-requires g c =
    let p = c.args.pass.now in
    let q = c.args.other in (
      search rules,
      search rules,
      empty_of q.seat.me.1 q.empty,
      search rules,
      joins c.args.self.now.table.shared.key.value p.seat.id p.seat.me.0 q.seat.id q.seat.me.0 (idle_of p.seat.me.0.stage p.idle) (idle_of q.seat.me.0.stage q.idle) p.live q.live p.settled q.settled,
    )

pub load-requires : goal.load-requires
load-requires g c =
    let p = c.args.pass.now in
    let q = c.args.other in
    let view = ap (λ (x : Mine). x.0) c.join_seat.ensures.2 in (
      search rules,
      search rules,
      settles-me c.args.self.now.table.shared.key.value _ _ c.join_seat.new.seat.me (both_of p.seat.me.0 q.seat.me.0) view (idle_of p.seat.me.0.stage p.idle) (omega arith),
    )

pub returns-clause-met : goal.returns-clause-met
returns-clause-met g c =
    let p = c.args.pass.now in
    let q = c.args.other in
    let view = ap (λ (x : Mine). x.0) c.join_seat.ensures.2 in
    let m = met-at p.seat.me.0 q.seat.me.0 c.join_seat.new.seat.me c.load.new.seat.me _ _ view c.load.ensures.2 in
    record { shares = m.shares; start = m.start; one = m.one; other = m.other; longer = m.longer; mine = m.mine; apart = m.apart }

pub invariant_of-pass-clause-sound_at : goal.invariant_of-pass-clause-sound_at
invariant_of-pass-clause-sound_at g c =
    let p = c.args.pass.now in
    let q = c.args.other in
    let view = ap (λ (x : Mine). x.0) c.join_seat.ensures.2 in
    let m = met-at p.seat.me.0 q.seat.me.0 c.join_seat.new.seat.me c.load.new.seat.me _ _ view c.load.ensures.2 in
    m.sound_at p.sound

pub invariant_of-pass-clause-lawful : goal.invariant_of-pass-clause-lawful
invariant_of-pass-clause-lawful g c =
    let p = c.args.pass.now in
    let q = c.args.other in
    let view = ap (λ (x : Mine). x.0) c.join_seat.ensures.2 in
    let m = met-at p.seat.me.0 q.seat.me.0 c.join_seat.new.seat.me c.load.new.seat.me _ _ view c.load.ensures.2 in
    m.lawful
