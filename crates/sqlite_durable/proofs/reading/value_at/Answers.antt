use Rattle.std.proofs.Common.{rules, [], ◌∷◌, sym, subst, ap, not, ◌∙◌}
use Rattle.sqlite.specs.Held.{state}
use Rattle.sqlite.specs.State.{HasCleanDisk, IsUnchanged, Shown}
use Rattle.std.specs.FinMap.{get}
use Rattle.sqlite.specs.Listing.{understood}
use Rattle.sqlite.specs.Values.{bound_value}
use Rattle.sqlite_value.specs.Value.{owned}
use Rattle.sqlite.proofs.Callers.{IsPlain}
use Rattle.sqlite_durable.specs.Table.{read_text}
use Rattle.sqlite_durable.specs.Kept.{records_of}
use Rattle.sqlite_durable.proofs.Texts.{read_plain}
use Rattle.sqlite_durable.proofs.ReadLemmas.{key_row, reads_one}
use Rattle.sqlite_durable.proofs.ShapeLemmas.{bytes_told, rows_are, shown_same, shown_open, open_clean, fails_now, on_err, leaves_as_before, commits_nothing, ok_of}
use Rattle.sqlite_durable.proofs.reading.value_at.Goals as goal

pub returns-clause-same : goal.returns-clause-same
returns-clause-same g c on =
    let clean : HasCleanDisk (state g.S.Store c.query_all.new.self) = open_clean _ _ (g.met.S.Store.shut_if_dirty c.query_all.new.self.store) on in
    let schema = c.requires.schema in
    let old = state g.S.Store c.args.connection.now in
    let plain = subst (λ s. IsPlain (understood s read_text)) (sym schema) read_plain in
    let same : IsUnchanged old (state g.S.Store c.query_all.new.self) = shown_same read_text _ old _ _ plain (c.in_ok-rows.ensures.ok clean) in
    search rules

pub returns-clause-value : goal.returns-clause-value
returns-clause-value g c on =
    let clean : HasCleanDisk (state g.S.Store c.query_all.new.self) = open_clean _ _ (g.met.S.Store.shut_if_dirty c.query_all.new.self.store) on in
    let schema = c.requires.schema in
    let old = state g.S.Store c.args.connection.now in
    let now = state g.S.Store c.query_all.new.self in
    let plain = subst (λ s. IsPlain (understood s read_text)) (sym schema) read_plain in
    let shown : Shown read_text (key_row c.args.key.now) old now c.in_ok-rows.rows.items =
    let asked : Shown read_text (bound_value (owned c.params-to_sql.result) ∷ []) old now c.in_ok-rows.rows.items = c.in_ok-rows.ensures.ok clean in
    let h : Shown read_text (key_row c.as_slice.result.now) old now c.in_ok-rows.rows.items = subst (λ v. Shown read_text (bound_value v ∷ []) old now c.in_ok-rows.rows.items) c.params-to_sql.ensures asked in
    subst (λ k. Shown read_text (key_row k) old now c.in_ok-rows.rows.items) c.as_slice.ensures h in
    let same = shown_same read_text _ old now _ plain shown in
    let all = rows_are old.now schema (c.schema-live.ensures.live same.0.was_open).0 in
    bytes_told c.only_bytes.result c.in_ok-rows.rows.items (get (records_of (old.now.trees 0)) c.args.key.now)
    (λ short. reads_one old now c.args.key.now c.in_ok-rows.rows.items schema all short shown)
    (rw c.as_slice-2.ensures.value at c.only_bytes.ensures.short) (rw c.as_slice-2.ensures.value at c.only_bytes.ensures.first)

pub returns-in_err-rows-clause-err : goal.returns-in_err-rows-clause-err
returns-in_err-rows-clause-err g c on =
    let clean : HasCleanDisk (state g.S.Store c.query_all.new.self) = open_clean _ _ (g.met.S.Store.shut_if_dirty c.query_all.new.self.store) on in
    on_err _ (fails_now read_text _ (state g.S.Store c.args.connection.now) (state g.S.Store c.query_all.new.self) _ (c.is_autocommit-alone.ensures.settled (c.is_autocommit-alone.ensures.value ∙ ap not c.requires.mode)) (c.in_err-rows.ensures.err clean) on)

pub returns-clause-err : goal.returns-clause-err
returns-clause-err g c on =
    let clean : HasCleanDisk (state g.S.Store c.query_all.new.self) = open_clean _ _ (g.met.S.Store.shut_if_dirty c.query_all.new.self.store) on in
    let was = shown_open read_text _ _ _ _ (c.in_ok-rows.ensures.ok clean) in
    let schema = c.requires.schema in
    let plain = subst (λ s. IsPlain (understood s read_text)) (sym schema) read_plain in
    let same : IsUnchanged (state g.S.Store c.args.connection.now) (state g.S.Store c.query_all.new.self) = shown_same read_text _ _ _ _ plain (c.in_ok-rows.ensures.ok clean) in
    on_err c.only_bytes.result (was, same.0.now_is)

pub returns-in_err-rows-clause-crash : goal.returns-in_err-rows-clause-crash
returns-in_err-rows-clause-crash g c = leaves_as_before _ _ (commits_nothing read_text _ (state g.S.Store c.args.connection.now) (state g.S.Store c.query_all.new.self) c.requires.schema read_plain c.query_all.ensures.survives)

pub returns-clause-crash : goal.returns-clause-crash
returns-clause-crash g c = leaves_as_before _ _ (commits_nothing read_text _ (state g.S.Store c.args.connection.now) (state g.S.Store c.query_all.new.self) c.requires.schema read_plain c.query_all.ensures.survives)

pub returns-clause-open : goal.returns-clause-open
returns-clause-open g c clean =
    let plain = subst (λ s. IsPlain (understood s read_text)) (sym c.requires.schema) read_plain in
    let same : IsUnchanged (state g.S.Store c.args.connection.now) (state g.S.Store c.query_all.new.self) = shown_same read_text _ _ _ _ plain (c.in_ok-rows.ensures.ok clean) in
    ok_of c.only_bytes.result same.0.is_open

pub returns-in_err-rows-clause-closes : goal.returns-in_err-rows-clause-closes
returns-in_err-rows-clause-closes g c = c.query_all.ensures.survives.closes

pub returns-clause-closes : goal.returns-clause-closes
returns-clause-closes g c = c.query_all.ensures.survives.closes
