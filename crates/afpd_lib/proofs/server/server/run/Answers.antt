use Rattle.std.proofs.Common.{refl, subst, sym, ap, map, string_bytes, String, Global}
use Rattle.std.specs.Prelude.{Err}
use Rattle.afp_serial.specs.Household.{Household}
use Rattle.afp_serial.specs.HouseFault.{house_fault}
use Rattle.afp_desk.specs.workers.Keeping.{keeping}
use Rattle.afpd_lib.specs.words.lemma.Values.{values_of}
use Rattle.afpd_lib.specs.server.Run.{EndsRun}
use Rattle.afpd_lib.specs.declared.server.server.Ran.{Ran}
use Rattle.afpd_lib.specs.server.lemma.Run.{EndsHouse}
use Rattle.afpd_lib.proofs.OfServer.HouseEnds.{unread-end, words-end}
use Rattle.afpd_lib.proofs.OfServer.OneHouse.{one_house}
use Rattle.afpd_lib.proofs.server.server.run.Goals as goal

pub serve_house-requires-clause-turns : goal.serve_house-requires-clause-turns
serve_house-requires-clause-turns g c = λ lifetimes outlive. c.in-Ok.ensures.found.says.turns_fit

pub serve_house-requires-clause-few : goal.serve_house-requires-clause-few
serve_house-requires-clause-few g c = λ lifetimes outlive. c.in-Ok.ensures.found.says.few_workers

pub unread_end-requires : goal.unread_end-requires
unread_end-requires g c = λ values says. c.in-Err.ensures.bad (ap Err c.in-Bad.is) values says

pub returns-in-Ok : goal.returns-in-Ok
returns-in-Ok g c =
    let ends = λ (r : Ran g.row.N.Denot). EndsRun g.N.Link.Link.link_state g.G.Gate.passed g.N.Listener.door_state (keeping g.K.Keeper.records g.K.Keeper.steady g.K.Keeper.sure g.K.Keeper.faults g.K.Keeper.settles) (map (λ (word : String Global). string_bytes word) c.args.words.now)
    c.args.keepers.items c.args.token_key (g.C.Clock.moment_told c.args.clock.now) c.args.doors.items r.end r.trace r.doors.items in
    subst ends (sym c.unserved-in_default.ensures) (
      λ values asks many as_many.
          let same = one_house _ c.args.token_key values (values_of c.in-Ok.said) asks.words_are c.in-Ok.ensures.found in
          cc (ap house_fault same, asks.house_is, c.in-Err-house_for.ensures.fault c.in_default.not-Memory),
      record { none = refl; same = refl },
    )

pub returns-in-Bad : goal.returns-in-Bad
returns-in-Bad g c =
    let ends = λ (r : Ran g.row.N.Denot). EndsRun g.N.Link.Link.link_state g.G.Gate.passed g.N.Listener.door_state (keeping g.K.Keeper.records g.K.Keeper.steady g.K.Keeper.sure g.K.Keeper.faults g.K.Keeper.settles) (map (λ (word : String Global). string_bytes word) c.args.words.now)
    c.args.keepers.items c.args.token_key (g.C.Clock.moment_told c.args.clock.now) c.args.doors.items r.end r.trace r.doors.items in
    subst ends (sym c.unserved-in-Bad.ensures) (
    unread-end g.N.Link.Link.link_state g.G.Gate.passed g.N.Listener.door_state (keeping g.K.Keeper.records g.K.Keeper.steady g.K.Keeper.sure g.K.Keeper.faults g.K.Keeper.settles) (map (λ (word : String Global). string_bytes word) c.args.words.now)
    c.args.keepers.items c.args.token_key (g.C.Clock.moment_told c.args.clock.now) c.args.doors.items c.unread_end.result (λ values says. c.in-Err.ensures.bad (ap Err c.in-Bad.is) values says) c.unread_end.ensures)

pub returns-in-Ok-house_for : goal.returns-in-Ok-house_for
returns-in-Ok-house_for g c =
    let kept_by = keeping g.K.Keeper.records g.K.Keeper.steady g.K.Keeper.sure g.K.Keeper.faults g.K.Keeper.settles in
    let clock = g.C.Clock.moment_told c.args.clock.now in
    words-end g.N.Link.Link.link_state g.G.Gate.passed g.N.Listener.door_state kept_by (map (λ (word : String Global). string_bytes word) c.args.words.now) c.args.keepers.items c.args.token_key clock c.args.doors.items
    (values_of c.in-Ok.said) c.serve_house.result.end c.serve_house.result.trace c.serve_house.result.doors.items record { words_are = c.in-Ok.ensures.found; house_is = c.in-Ok-house_for.ensures.sound }
    (subst (λ (h : Household). EndsHouse g.N.Link.Link.link_state g.G.Gate.passed g.N.Listener.door_state kept_by h c.args.keepers.items c.in-Ok.said.workers c.in-Ok.said.turns clock c.args.doors.items c.serve_house.result.end c.serve_house.result.trace c.serve_house.result.doors.items)
    c.in-Ok-house_for.ensures.house c.serve_house.ensures)
