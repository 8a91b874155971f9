use Rattle.std.proofs.Common.{rules}
use Rattle.afp_outside.specs.ends.Listener.{HandsOut, Closes, FailsToAccept}
use Rattle.afp_outside.specs.ends.Ready.{Comes}
use Rattle.afp_server_table.proofs.Keeping.{takes-link, takes-closed, takes-failed}
use Rattle.afp_server_table.proofs.turns.take_next.Goals as goal

pub returns-in-Link : goal.returns-in-Link
returns-in-Link g c =
    let hands : HandsOut g.P.Link.ReadyLink.link_state (g.P.Readiness.door_state c.args.poll.now) c.in-Link.link (g.P.Readiness.door_state c.accept.new.self) = search rules in
    record {
      takes = λ block turns shown.
          takes-link g.P.Link.ReadyLink.link_state g.G.Gate.passed block turns c.args.links.now c.next_key.new.self c.insert.new.self c.insert.result c.new.result c.in-Link.link (g.P.Readiness.door_state c.args.poll.now)
          (g.P.Readiness.door_state c.accept.new.self) shown c.next_key.ensures.slots c.next_key.ensures.taken hands (λ b. c.new.ensures.begins g.G.Gate.passed block turns b c.log.ensures) c.insert.ensures.vacant c.insert.ensures.updates
          c.insert.ensures.len c.insert.ensures.taken;
    }

pub returns-in-Closed : goal.returns-in-Closed
returns-in-Closed g c =
    let closes : Closes (g.P.Readiness.door_state c.args.poll.now) (g.P.Readiness.door_state c.accept.new.self) = search rules in
    record {
      takes = λ block turns shown.
          takes-closed g.P.Link.ReadyLink.link_state g.G.Gate.passed block turns c.args.links.now c.next_key.new.self (g.P.Readiness.door_state c.args.poll.now) (g.P.Readiness.door_state c.accept.new.self) shown c.next_key.ensures.slots
          c.next_key.ensures.taken closes;
    }

pub returns-in-Failed : goal.returns-in-Failed
returns-in-Failed g c =
    let fails : FailsToAccept (g.P.Readiness.door_state c.args.poll.now) (g.P.Readiness.door_state c.accept.new.self) = search rules in
    record {
      takes = λ block turns shown.
          takes-failed g.P.Link.ReadyLink.link_state g.G.Gate.passed block turns c.args.links.now c.next_key.new.self (g.P.Readiness.door_state c.args.poll.now) (g.P.Readiness.door_state c.accept.new.self) shown c.next_key.ensures.slots
          c.next_key.ensures.taken fails;
    }
