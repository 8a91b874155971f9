use Rattle.std.proofs.Common.{rules, ◌≡◌, OnOk, OnErr, IsTrue, sym, subst, ap, not, ◌∙◌, arith, true}
use Rattle.sqlite.specs.Held.{state}
use Rattle.sqlite_trees.specs.Tree.{Trees}
use Rattle.sqlite.specs.State.{HasCleanDisk, Survives, KeepsCommit}
use Rattle.sqlite.proofs.StateLemmas.{survives_then}
use Rattle.sqlite.proofs.Callers.{survives_begin}
use Rattle.record_keeper.specs.Records.{changed}
use Rattle.sqlite_durable.specs.Turned.{HasTable, Holds, Turns, records_in}
use Rattle.sqlite_durable.specs.Kept.{records_of}
use Rattle.sqlite_durable.proofs.ShapeLemmas.{open_clean, ok_then, on_err, uncommitted_by, dropped_by}
use Rattle.sqlite_durable.proofs.writing.make_all.Goals as goal

pub returns-clause-ok : goal.returns-clause-ok
returns-clause-ok g c on =
    let old = c.args.connection.now in
    let last = c.change_all.new.transaction.conn.now in
    let end = c.commit.new.self.0 in
    let begun = c.transaction-transaction.ensures.begun in
    let same : end ≡ c.connection-2-1.given.0 = search rules in
    let on_end : IsTrue (state g.S.Store end).is_open = search rules in
    let late : HasCleanDisk (state g.S.Store end) = open_clean _ _ (g.met.S.Store.shut_if_dirty end.store) on_end in
    let early : HasCleanDisk (state g.S.Store last) = omega (arith, c.commit.ensures.survives.clean) in
    let kept : KeepsCommit (state g.S.Store (record old { in_transaction = true })) (state g.S.Store last) = rw begun at (c.change_all.ensures.kept early (rw begun)) in
    let turn : HasTable (state g.S.Store old).now → Turns (changed c.args.changes.now) (state g.S.Store old).now (state g.S.Store last).now = rw begun at (c.in_ok-change_all.ensures.turns early (rw begun)) in
    subst (λ h. OnOk c.commit.result (IsTrue (state g.S.Store old).is_open × Turns (changed c.args.changes.now) (state g.S.Store old).now (state g.S.Store h).now)) same
    (ok_then c.commit.result (λ done.
    let was : IsTrue (state g.S.Store old).is_open = kept.was_open done.1.was_open in
    let turned = turn (c.requires.schema, (c.schema-live.ensures.live was).0) in
    (was, subst (λ db. Holds db (changed c.args.changes.now (records_in (state g.S.Store old).now))) (sym done.1.now_is) turned)) (c.commit.ensures.ok late))

pub returns-clause-err : goal.returns-clause-err
returns-clause-err g c on =
    let old = c.args.connection.now in
    let last = c.change_all.new.transaction.conn.now in
    let end = c.commit.new.self.0 in
    let begun = c.transaction-transaction.ensures.begun in
    let same : end ≡ c.connection-2-1.given.0 = search rules in
    let on_end : IsTrue (state g.S.Store end).is_open = search rules in
    let late : HasCleanDisk (state g.S.Store end) = open_clean _ _ (g.met.S.Store.shut_if_dirty end.store) on_end in
    let early : HasCleanDisk (state g.S.Store last) = omega (arith, c.commit.ensures.survives.clean) in
    let begun_state = state g.S.Store (record old { in_transaction = true }) in
    let kept : KeepsCommit begun_state (state g.S.Store last) = rw begun at (c.change_all.ensures.kept early (rw begun)) in
    let inside = c.in_ok-change_all.ensures.inside early (rw begun) in
    let settled : IsTrue (state g.S.Store old).is_open → (state g.S.Store old).now ≡ (state g.S.Store old).committed = c.is_autocommit-alone.ensures.settled (c.is_autocommit-alone.ensures.value ∙ ap not c.requires.mode) in
    subst (λ h. OnErr c.commit.result (IsTrue (state g.S.Store old).is_open × ((state g.S.Store h).now ≡ (state g.S.Store old).now))) same
    (uncommitted_by begun_state (state g.S.Store last) (state g.S.Store end) c.commit.result settled kept inside (c.commit.ensures.err late) on_end)

pub returns-clause-crash : goal.returns-clause-crash
returns-clause-crash g c =
    let old = c.args.connection.now in
    let last = c.change_all.new.transaction.conn.now in
    let begun = c.transaction-transaction.ensures.begun in
    let P = λ (trees : Trees). IsTrue (state g.S.Store old).is_open × (records_of (trees 0) ≡ changed c.args.changes.now (records_in (state g.S.Store old).now)) in
    let whole = survives_then (state g.S.Store old) (state g.S.Store last) (state g.S.Store c.commit.new.self.0) _ _ P (λ _ db none. absurd none)
    (λ clean db is.
    let early : HasCleanDisk (state g.S.Store last) = omega (arith, c.commit.ensures.survives.clean) in
    let was : IsTrue (state g.S.Store old).is_open = rw begun at (c.in_ok-change_all.ensures.open early) in
    let turn : HasTable (state g.S.Store old).now → Turns (changed c.args.changes.now) (state g.S.Store old).now (state g.S.Store last).now = rw begun at (c.in_ok-change_all.ensures.turns early (rw begun)) in
    (was, ap (λ (trees : Trees). records_of (trees 0)) is ∙ (turn (c.requires.schema, (c.schema-live.ensures.live was).0)).1)) (survives_begin g.S.Store old (state g.S.Store last) _ (rw begun at c.change_all.ensures.crash)) c.commit.ensures.survives in
    let same : c.commit.new.self.0 ≡ c.connection-2-1.given.0 = search rules in
    (subst (λ h. Survives (state g.S.Store old) (state g.S.Store h) P) same whole).crash

pub returns-clause-open : goal.returns-clause-open
returns-clause-open g c clean =
    let end = c.commit.new.self.0 in
    let same : end ≡ c.connection-2-1.given.0 = search rules in
    let late : HasCleanDisk (state g.S.Store end) = rw same clean in
    subst (λ h. OnOk c.commit.result (IsTrue (state g.S.Store h).is_open)) same (ok_then c.commit.result (λ done. done.1.is_open) (c.commit.ensures.ok late))

pub returns-in_err-change_all-clause-err : goal.returns-in_err-change_all-clause-err
returns-in_err-change_all-clause-err g c on =
    let old = c.args.connection.now in
    let last = c.change_all.new.transaction.conn.now in
    let end = c.drop-transaction.new.self.0 in
    let begun = c.transaction-transaction.ensures.begun in
    let same : end ≡ c.connection-1.given.0 = search rules in
    let on_end : IsTrue (state g.S.Store end).is_open = search rules in
    let late : HasCleanDisk (state g.S.Store end) = open_clean _ _ (g.met.S.Store.shut_if_dirty end.store) on_end in
    let early : HasCleanDisk (state g.S.Store last) = omega (arith, c.drop-transaction.ensures.survives.clean) in
    let begun_state = state g.S.Store (record old { in_transaction = true }) in
    let kept : KeepsCommit begun_state (state g.S.Store last) = rw begun at (c.change_all.ensures.kept early (rw begun)) in
    let settled : IsTrue (state g.S.Store old).is_open → (state g.S.Store old).now ≡ (state g.S.Store old).committed = c.is_autocommit-alone.ensures.settled (c.is_autocommit-alone.ensures.value ∙ ap not c.requires.mode) in
    on_err _ (subst (λ h. IsTrue (state g.S.Store old).is_open × ((state g.S.Store h).now ≡ (state g.S.Store old).now)) same
    (dropped_by begun_state (state g.S.Store last) (state g.S.Store end) settled kept (c.drop-transaction.ensures.undone late) on_end))

pub returns-clause-closes : goal.returns-clause-closes
returns-clause-closes g c =
    let old = c.args.connection.now in
    let last = c.change_all.new.transaction.conn.now in
    let begun = c.transaction-transaction.ensures.begun in
    let any = λ (trees : Trees). Unit {0} in
    let whole = survives_then (state g.S.Store old) (state g.S.Store last) (state g.S.Store c.commit.new.self.0) _ _ any (λ _ db none. tt) (λ _ db is. tt) (survives_begin g.S.Store old (state g.S.Store last) _ (rw begun at c.change_all.ensures.crash)) c.commit.ensures.survives in
    let same : c.commit.new.self.0 ≡ c.connection-2-1.given.0 = search rules in
    (subst (λ h. Survives (state g.S.Store old) (state g.S.Store h) any) same whole).closes

pub returns-in_err-change_all-clause-closes : goal.returns-in_err-change_all-clause-closes
returns-in_err-change_all-clause-closes g c =
    let old = c.args.connection.now in
    let last = c.change_all.new.transaction.conn.now in
    let end = c.drop-transaction.new.self.0 in
    let begun = c.transaction-transaction.ensures.begun in
    let any = λ (trees : Trees). Unit {0} in
    let whole = survives_then (state g.S.Store old) (state g.S.Store last) (state g.S.Store end) _ _ any (λ _ db none. tt) (λ _ db is. tt) (survives_begin g.S.Store old (state g.S.Store last) _ (rw begun at c.change_all.ensures.crash)) c.drop-transaction.ensures.survives in
    let same : end ≡ c.connection-1.given.0 = search rules in
    (subst (λ h. Survives (state g.S.Store old) (state g.S.Store h) any) same whole).closes
