use Rattle.std.proofs.Common.{subst}
use Rattle.afp_server.specs.connection.Connection.{IsParted, Stands}
use Rattle.afp_server.specs.connection.Turn.{InTurn}
use Rattle.afp_server_table.specs.lemma.Links.{SeatState}
use Rattle.afp_server_table.proofs.links.Seat.part.Goals as goal

pub returns-clause-parts : goal.returns-clause-parts
returns-clause-parts g c passed turns =
    subst
    (λ (s : SeatState g.row.L.Denot g.row.A.Denot). InTurn (g.T.Teller.shown c.args.teller.now) (g.T.Teller.shown c.part.new.teller) (Stands g.L.ReadyLink.link_state passed c.args.room.now turns s.connection)
    (λ start shown. IsParted passed start s.connection.standing (g.L.ReadyLink.link_state c.part.result) s.connection.log shown))
    c.self.view_is (c.part.ensures.parts passed turns)
