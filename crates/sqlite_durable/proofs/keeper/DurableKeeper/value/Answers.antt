use Rattle.std.proofs.Common.{subst}
use Rattle.sqlite.specs.Held.{state}
use Rattle.record_keeper.specs.Stops.{AddsNone}
use Rattle.sqlite_durable.specs.Durable.{Durable, lasts_of, leaves_of}
use Rattle.sqlite_durable.specs.Turned.{StaysOpen}
use Rattle.sqlite_durable.proofs.StopLemmas.{adds-none, Leaves, tells-ok}
use Rattle.sqlite_durable.proofs.keeper.DurableKeeper.value.Goals as goal

pub returns-in-Ok-clause-stops : goal.returns-in-Ok-clause-stops
returns-in-Ok-clause-stops g c =
    let new = state g.S.Store c.value_of.new.connection in
    subst (λ k. AddsNone (lasts_of g.S.Store k) new.is_clean (leaves_of g.S.Store k) (Leaves new)) c.self.view_is
    (adds-none (state g.S.Store c.self.inside.connection) (state g.S.Store c.value_of.new.connection) c.value_of.ensures.clean c.value_of.ensures.crash)

pub returns-in-Err-clause-stops : goal.returns-in-Err-clause-stops
returns-in-Err-clause-stops g c =
    let new = state g.S.Store c.value_of.new.connection in
    subst (λ k. AddsNone (lasts_of g.S.Store k) new.is_clean (leaves_of g.S.Store k) (Leaves new)) c.self.view_is
    (adds-none (state g.S.Store c.self.inside.connection) (state g.S.Store c.value_of.new.connection) c.value_of.ensures.clean c.value_of.ensures.crash)

pub returns-in-Ok-clause-tells : goal.returns-in-Ok-clause-tells
returns-in-Ok-clause-tells g c = tells-ok _ _ _ c.in-Ok.ensures.open

pub returns-in-Ok-clause-open : goal.returns-in-Ok-clause-open
returns-in-Ok-clause-open g c = subst (λ (k : Durable _). StaysOpen (state g.S.Store k.database) (state g.S.Store c.value_of.new.connection)) c.self.view_is c.value_of.ensures.closes

pub returns-in-Err-clause-open : goal.returns-in-Err-clause-open
returns-in-Err-clause-open g c = subst (λ (k : Durable _). StaysOpen (state g.S.Store k.database) (state g.S.Store c.value_of.new.connection)) c.self.view_is c.value_of.ensures.closes
