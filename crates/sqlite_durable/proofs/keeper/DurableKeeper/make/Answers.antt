use Rattle.std.proofs.Common.{rules, ◌≡◌, subst, Ok, Err, false}
use Rattle.sqlite.specs.Held.{state}
use Rattle.record_keeper.specs.Records.{changed, Records}
use Rattle.record_keeper.specs.Stops.{Adds, AddsNone, Changed}
use Rattle.record_keeper.specs.declared.keeper.KeeperFault.TheVariants.{Failed}
use Rattle.sqlite_durable.specs.Durable.{Durable, told_of, lasts_of, leaves_of}
use Rattle.sqlite_durable.specs.Turned.{LeavesOrTold, StaysOpen}
use Rattle.sqlite_durable.proofs.StopLemmas.{adds-changed, adds-none, adds-old, Leaves, tells-ok}
use Rattle.sqlite_durable.proofs.keeper.DurableKeeper.make.Goals as goal

pub returns-in-Ok-clause-stops : goal.returns-in-Ok-clause-stops
returns-in-Ok-clause-stops g c =
    let old = state g.S.Store c.self.inside.connection in
    let new = state g.S.Store c.make_all.new.connection in
    let crash : LeavesOrTold (changed c.args.changes.items) old new = rw c.as_slice.ensures.value at c.make_all.ensures.crash in
    subst (λ k. Adds (lasts_of g.S.Store k) new.is_clean (leaves_of g.S.Store k) (Leaves new) (Changed (changed c.args.changes.items) (told_of g.S.Store k) (Ok tt))) c.self.view_is
    (adds-changed (state g.S.Store c.self.inside.connection) (state g.S.Store c.make_all.new.connection) (changed c.args.changes.items) c.make_all.ensures.clean crash)

pub returns-then-tried-clause-stops : goal.returns-then-tried-clause-stops
returns-then-tried-clause-stops g c =
    let old = state g.S.Store c.self.inside.connection in
    let new = state g.S.Store c.make_all.new.connection in
    let crash : LeavesOrTold (changed c.args.changes.items) old new = rw c.as_slice.ensures.value at c.make_all.ensures.crash in
    subst (λ k. Adds (lasts_of g.S.Store k) new.is_clean (leaves_of g.S.Store k) (Leaves new) (Changed (changed c.args.changes.items) (told_of g.S.Store k) (Err Failed))) c.self.view_is
    (adds-changed (state g.S.Store c.self.inside.connection) (state g.S.Store c.make_all.new.connection) (changed c.args.changes.items) c.make_all.ensures.clean crash)

pub returns-in-Ok-clause-tells : goal.returns-in-Ok-clause-tells
returns-in-Ok-clause-tells g c = tells-ok _ _ _ c.in-Ok.ensures.open

pub returns-clause-stops : goal.returns-clause-stops
returns-clause-stops g c =
    let new = state g.S.Store c.make_all.new.connection in
    let none : c.make_all.new.tried ≡ false = search rules in
    let any = subst (λ k. (more : Records → Type 0) → Adds (lasts_of g.S.Store k) new.is_clean (leaves_of g.S.Store k) (Leaves new) more) c.self.view_is
    (λ more. adds-old (state g.S.Store c.self.inside.connection) (state g.S.Store c.make_all.new.connection) more c.make_all.ensures.clean (c.make_all.ensures.refused none)) in
    any _

pub returns-in-Ok-clause-open : goal.returns-in-Ok-clause-open
returns-in-Ok-clause-open g c = subst (λ (k : Durable _). StaysOpen (state g.S.Store k.database) (state g.S.Store c.make_all.new.connection)) c.self.view_is c.make_all.ensures.closes

pub returns-then-tried-clause-open : goal.returns-then-tried-clause-open
returns-then-tried-clause-open g c = subst (λ (k : Durable _). StaysOpen (state g.S.Store k.database) (state g.S.Store c.make_all.new.connection)) c.self.view_is c.make_all.ensures.closes

pub returns-clause-open : goal.returns-clause-open
returns-clause-open g c = subst (λ (k : Durable _). StaysOpen (state g.S.Store k.database) (state g.S.Store c.make_all.new.connection)) c.self.view_is c.make_all.ensures.closes
