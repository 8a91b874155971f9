use Rattle.std.proofs.Common.{rules, [], None, sym, subst, ap, not, ◌∙◌}
use Rattle.sqlite.specs.Held.{state}
use Rattle.sqlite.specs.State.{HasCleanDisk, IsUnchanged, Shown}
use Rattle.sqlite.specs.Listing.{understood}
use Rattle.sqlite.proofs.Callers.{IsPlain}
use Rattle.sqlite_durable.specs.Table.{page_text}
use Rattle.sqlite_durable.specs.Kept.{records_of}
use Rattle.sqlite_durable.specs.lemma.Ahead.{IsPage}
use Rattle.sqlite_durable.proofs.Texts.{page_plain}
use Rattle.sqlite_durable.proofs.PageLemmas.{page_told}
use Rattle.sqlite_durable.proofs.ShapeLemmas.{rows_are, shown_same, shown_open, open_clean, fails_now, on_err, leaves_as_before, commits_nothing, ok_both, ok_of}
use Rattle.sqlite_durable.proofs.reading.first_page.Goals as goal

pub returns-clause-same : goal.returns-clause-same
returns-clause-same g c on =
    let clean : HasCleanDisk (state g.S.Store c.query_all.new.self) = open_clean _ _ (g.met.S.Store.shut_if_dirty c.query_all.new.self.store) on in
    let schema = c.requires.schema in
    let old = state g.S.Store c.args.connection.now in
    let plain = subst (λ s. IsPlain (understood s page_text)) (sym schema) page_plain in
    let same : IsUnchanged old (state g.S.Store c.query_all.new.self) = shown_same page_text _ old _ _ plain (c.in_ok-rows.ensures.ok clean) in
    search rules

pub returns-clause-page : goal.returns-clause-page
returns-clause-page g c on =
    let clean : HasCleanDisk (state g.S.Store c.query_all.new.self) = open_clean _ _ (g.met.S.Store.shut_if_dirty c.query_all.new.self.store) on in
    let schema = c.requires.schema in
    let old = state g.S.Store c.args.connection.now in
    let now = state g.S.Store c.query_all.new.self in
    let plain = subst (λ s. IsPlain (understood s page_text)) (sym schema) page_plain in
    let shown : Shown page_text [] old now c.in_ok-rows.rows.items = c.in_ok-rows.ensures.ok clean in
    let same = shown_same page_text _ old now _ plain shown in
    let all = rows_are old.now schema (c.schema-live.ensures.live same.0.was_open).0 in
    ok_both c.page_of.result c.page_of.ensures.rises c.page_of.ensures.front (λ front rises is. subst (IsPage (records_of (old.now.trees 0)) None) (sym is) (page_told old now c.in_ok-rows.rows.items schema all shown rises))

pub returns-in_err-rows-clause-err : goal.returns-in_err-rows-clause-err
returns-in_err-rows-clause-err g c on =
    let clean : HasCleanDisk (state g.S.Store c.query_all.new.self) = open_clean _ _ (g.met.S.Store.shut_if_dirty c.query_all.new.self.store) on in
    on_err _ (fails_now page_text _ (state g.S.Store c.args.connection.now) (state g.S.Store c.query_all.new.self) _ (c.is_autocommit-alone.ensures.settled (c.is_autocommit-alone.ensures.value ∙ ap not c.requires.mode)) (c.in_err-rows.ensures.err clean) on)

pub returns-clause-err : goal.returns-clause-err
returns-clause-err g c on =
    let clean : HasCleanDisk (state g.S.Store c.query_all.new.self) = open_clean _ _ (g.met.S.Store.shut_if_dirty c.query_all.new.self.store) on in
    let was = shown_open page_text _ _ _ _ (c.in_ok-rows.ensures.ok clean) in
    let schema = c.requires.schema in
    let plain = subst (λ s. IsPlain (understood s page_text)) (sym schema) page_plain in
    let same : IsUnchanged (state g.S.Store c.args.connection.now) (state g.S.Store c.query_all.new.self) = shown_same page_text _ _ _ _ plain (c.in_ok-rows.ensures.ok clean) in
    on_err c.page_of.result (was, same.0.now_is)

pub returns-in_err-rows-clause-crash : goal.returns-in_err-rows-clause-crash
returns-in_err-rows-clause-crash g c = leaves_as_before _ _ (commits_nothing page_text _ (state g.S.Store c.args.connection.now) (state g.S.Store c.query_all.new.self) c.requires.schema page_plain c.query_all.ensures.survives)

pub returns-clause-crash : goal.returns-clause-crash
returns-clause-crash g c = leaves_as_before _ _ (commits_nothing page_text _ (state g.S.Store c.args.connection.now) (state g.S.Store c.query_all.new.self) c.requires.schema page_plain c.query_all.ensures.survives)

pub returns-clause-open : goal.returns-clause-open
returns-clause-open g c clean =
    let plain = subst (λ s. IsPlain (understood s page_text)) (sym c.requires.schema) page_plain in
    let same : IsUnchanged (state g.S.Store c.args.connection.now) (state g.S.Store c.query_all.new.self) = shown_same page_text _ _ _ _ plain (c.in_ok-rows.ensures.ok clean) in
    ok_of c.page_of.result same.0.is_open

pub returns-in_err-rows-clause-closes : goal.returns-in_err-rows-clause-closes
returns-in_err-rows-clause-closes g c = c.query_all.ensures.survives.closes

pub returns-clause-closes : goal.returns-clause-closes
returns-clause-closes g c = c.query_all.ensures.survives.closes
