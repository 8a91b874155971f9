use Rattle.std.proofs.Common.{◌≡◌, ◌+◌, Some, rules}
use Rattle.slab.specs.Slab.{get, slab_len}
use Rattle.afp_server.specs.connection.Connection.{rest_of}
use Rattle.afp_server.specs.declared.connection.connection.Rest.TheVariants as rests
use Rattle.afp_server_table.proofs.Keeping.{keeps-turn, keeps-part}
use Rattle.afp_server_table.proofs.turns.serve_one.Goals as goal

pub returns-in-Over-clause-keeps : goal.returns-in-Over-clause-keeps
returns-in-Over-clause-keeps g c =
    let found : get c.args.links.now.seats c.args.key ≡ Some c.in-Some.taken = search rules in
    let len : slab_len c.take.new.self.seats + 1 ≡ slab_len c.args.links.now.seats = search rules in
    let over : rests.Over c.in-Over.field-0 ≡ rest_of c.go-rest.new.self.connection.standing = search rules in
    keeps-part g.P.Link.ReadyLink.link_state g.G.Gate.passed c.args.room.now c.go-rest.new.room c.args.round.now.turn.turns c.args.links.now c.take.new.self c.args.key c.in-Some.taken c.go-rest.new.self c.in-Over.field-0 c.part-link.result
    (g.P.Readiness.door_state c.args.poll.now) (g.P.Readiness.door_state c.back.new.self) (g.T.Teller.shown c.args.teller.now) (g.T.Teller.shown c.go-rest.new.teller) (g.T.Teller.shown c.part-link.new.teller)
    found c.take.ensures.updates len c.take.ensures.taken c.go-rest.ensures.goes over c.go-rest.ensures.room (c.part-link.ensures.parts g.G.Gate.passed c.args.round.now.turn.turns) c.back.ensures

pub returns-in_default-rest : goal.returns-in_default-rest
returns-in_default-rest g c =
    let found : get c.args.links.now.seats c.args.key ≡ Some c.in-Some.taken = search rules in
    let len : slab_len c.take.new.self.seats + 1 ≡ slab_len c.args.links.now.seats = search rules in
    let next : c.take.new.self.seats.vacant_key ≡ c.args.key = search rules in
    record {
      fixed = c.go-rest.ensures.fixed;
      room = c.go-rest.ensures.room;
      keeps = keeps-turn g.P.Link.ReadyLink.link_state g.G.Gate.passed c.args.room.now c.args.round.now.turn.turns c.args.links.now c.take.new.self c.put_back.new.self c.args.key c.in-Some.taken c.go-rest.new.self
          (g.P.Readiness.door_state c.args.poll.now) (g.T.Teller.shown c.args.teller.now) (g.T.Teller.shown c.go-rest.new.teller) found c.take.ensures.updates len next c.take.ensures.taken c.go-rest.ensures.number c.go-rest.ensures.goes
          c.put_back.ensures.updates c.put_back.ensures.len c.put_back.ensures.taken;
    }
