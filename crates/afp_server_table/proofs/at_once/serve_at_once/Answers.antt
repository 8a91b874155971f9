use Rattle.std.proofs.Common.{◌≡◌, refl, sym, subst, ◌∙◌}
use Rattle.afp_outside.specs.ends.Listener.{DoorState}
use Rattle.afp_serial.specs.StatusBlock.{status_block}
use Rattle.afp_server_table.specs.lemma.Links.{LinksStand}
use Rattle.afp_server_table.proofs.Standing.{ends-where, stand-door-at, stand-none}
use Rattle.afp_server_table.proofs.at_once.serve_at_once.Goals as goal

pub loop-init : goal.loop-init
loop-init g c = record {
  fixed = refl;
  room = c.requires.room;
  stands = stand-none _ _ _ _ _ _ _ _ c.new-links.ensures.seats c.new-links.ensures.taken c.requires.open;
}

pub loop-preserved : goal.loop-preserved
loop-preserved g c = record {
  fixed = c.serve_round.ensures.fixed ∙ c.loop.invariant.fixed;
  room = c.serve_round.ensures.room ∙ c.loop.invariant.room;
  stands = c.serve_round.ensures.keeps c.args.house.now (g.P.Readiness.door_state c.args.poll.now) (g.T.Teller.shown c.args.teller.now) c.take_while_open-end.result c.loop.invariant.room
      (c.take_while_open-end.ensures.takes (status_block c.args.house.now) c.args.turns _ c.args.house.now (g.P.Readiness.door_state c.args.poll.now) (g.T.Teller.shown c.args.teller.now) refl
      (stand-door-at _ _ _ _ _ _ _ _ _ _ _ _ c.wait.ensures c.loop.invariant.stands));
}

pub returns-in-Some-is_over-clause-fixed : goal.returns-in-Some-is_over-clause-fixed
returns-in-Some-is_over-clause-fixed g c = c.leave.ensures.fixed ∙ c.loop.invariant.fixed

pub returns-in-Some-is_over-clause-serves : goal.returns-in-Some-is_over-clause-serves
returns-in-Some-is_over-clause-serves g c = ends-where _ _ _ _ _ _ _ c.in-Some-is_over.why _ _ _ _ _ c.in-Some-is_over.ensures.over c.leave.ensures.leaves c.loop.invariant.stands
