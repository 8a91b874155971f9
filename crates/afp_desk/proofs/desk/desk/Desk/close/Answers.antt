use Rattle.std.proofs.Common.{◌≡◌, Some, rules, sym, ap, ◌∙◌, subst}
use mathlib.Core.Option.{some-injective}
use Rattle.std.specs.Prelude.{sum}
use Rattle.afp_base.specs.Counts.{Rises}
use Rattle.afp_serial.specs.History.{faults_in}
use Rattle.afp_core.specs.turns.ServerState.{ServerState}
use Rattle.afp_desk.specs.desk.StandsFor.{StandsFor}
use Rattle.afp_desk.specs.desk.Plays.{Mine}
use Rattle.afp_desk.proofs.OfDesk.Passing.{idle_of}
use Rattle.afp_desk.proofs.OfDesk.Steps.{closes-as, echoes}
use Rattle.afp_desk.proofs.desk.desk.Desk.close.Goals as goal

pub split_seat-last-requires : goal.split_seat-last-requires
split_seat-last-requires g c =
    let p = c.args.pass in
    (search rules, search rules, echoes c.args.self.table.shared.key.value p.seat.id p.seat.me.0 (idle_of p.seat.me.0.stage p.idle))

pub unreachable-requires : goal.unreachable-requires
unreachable-requires g c =
    let p = c.args.pass in
    let s = c.split_seat-last.ensures in
    let last = closes-as c.args.self.table.shared.key.value p.seat.id _ p.seat.me.0 _ _ _ s.1 (ap (λ (m : Mine). m.0) s.2) (idle_of p.seat.me.0.stage p.idle) c.requires.whole p.settled c.close_with-closed.ensures.values.2 in
    let e : Some p.seat.me.0.core ≡ c.take.result = some-injective _ _ (sym last.there ∙ c.take.ensures.value) in
    c.in_default.not-Some p.seat.me.0.core (sym e)

pub returns-clause-core : goal.returns-clause-core
returns-clause-core g c =
    let p = c.args.pass in
    let s = c.split_seat-last.ensures in
    let last = closes-as c.args.self.table.shared.key.value p.seat.id _ p.seat.me.0 _ _ _ s.1 (ap (λ (m : Mine). m.0) s.2) (idle_of p.seat.me.0.stage p.idle) c.requires.whole p.settled c.close_with-closed.ensures.values.2 in
    let e : Some p.seat.me.0.core ≡ Some c.in-Some.core = some-injective _ _ (sym last.there ∙ c.take.ensures.value) ∙ c.in-Some.is in
    let core : p.seat.me.0.core ≡ c.in-Some.core = cc in
    record {
      same = core;
      stands = subst (λ (x : ServerState). StandsFor p.seat.me.0.start p.seat.me.0.seen x) core last.stands;
      risen = subst (λ (x : ServerState). Rises (faults_in p.seat.me.0.seen) (sum p.seat.me.0.start.faults) (sum x.faults)) core last.risen;
      all_mine = last.all_mine;
    }
