use Rattle.std.proofs.Common.{◌∙◌, ap, arith}
use Rattle.std.specs.Prelude.{is_ok}
use Rattle.range_locks.specs.Locks.{with_fork_lock}
use Rattle.range_locks.proofs.Keeping.{is_locked, is_overlap, is_full, is_free, listed, set_kept}
use Rattle.range_locks.proofs.locks.Locks.lock.Goals as goal

pub returns-then-seen : goal.returns-then-seen
returns-then-seen c = (is_locked (record { was = c.self.invariant; shown = c.self.view_is; rows_are = c.rows_of.ensures; looked = c.look-seen.ensures }) c.if-seen.true, cc)

pub returns-then-seen-2 : goal.returns-then-seen-2
returns-then-seen-2 c = (is_overlap (record { was = c.self.invariant; shown = c.self.view_is; rows_are = c.rows_of.ensures; looked = c.look-seen.ensures }) c.if-seen.false c.if-seen-2.true, cc)

pub returns-then-held_by-ge-MOST_LOCKS : goal.returns-then-held_by-ge-MOST_LOCKS
returns-then-held_by-ge-MOST_LOCKS c = (is_full (record { was = c.self.invariant; shown = c.self.view_is; rows_are = c.rows_of.ensures; looked = c.look-seen.ensures }) c.held_by.result c.as_slice.result.now c.if-seen.false c.if-seen-2.false c.as_slice.ensures.value c.held_by.ensures (omega arith), cc)

pub returns-in_default : goal.returns-in_default
returns-in_default c = (is_free (record { was = c.self.invariant; shown = c.self.view_is; rows_are = c.rows_of.ensures; looked = c.look-seen.ensures }) c.held_by.result c.as_slice.result.now c.if-seen.false c.if-seen-2.false c.as_slice.ensures.value c.held_by.ensures (omega arith), c.in_default.ensures.items ∙ c.self.view_is)

pub returns-in_default-add_row : goal.returns-in_default-add_row
returns-in_default-add_row c = (is_free (record { was = c.self.invariant; shown = c.self.view_is; rows_are = c.rows_of.ensures; looked = c.look-seen.ensures }) c.held_by.result c.as_slice.result.now c.if-seen.false c.if-seen-2.false c.as_slice.ensures.value c.held_by.ensures (omega arith), c.in-Ok.ensures.items ∙ c.self.view_is)

pub invariant_of-self-2 : goal.invariant_of-self-2
invariant_of-self-2 c =
    let put = listed (record { reference = c.args.r.0; fork = c.args.fork.now; range = c.args.range }) (is_ok c.insert.result) c.self.invariant.order c.in-Ok.ensures.items c.as_slice-2.ensures.value c.behind-place.ensures (c.insert.ensures.succeeds (omega (arith, c.in-Ok.ensures.ok))) c.insert.ensures.items in
    set_kept (record { was = c.self.invariant; rows_are = c.rows_of.ensures; looked = c.look-seen.ensures; other = c.if-seen.false; own = c.if-seen-2.false; new_rows = c.in-Ok-add_row.ensures.ok; new_list = put.0; new_order = put.1 })

pub returns : goal.returns
returns c =
    let put = listed (record { reference = c.args.r.0; fork = c.args.fork.now; range = c.args.range }) (is_ok c.insert.result) c.self.invariant.order c.in-Ok.ensures.items c.as_slice-2.ensures.value c.behind-place.ensures (c.insert.ensures.succeeds (omega (arith, c.in-Ok.ensures.ok))) c.insert.ensures.items in
    (is_free (record { was = c.self.invariant; shown = c.self.view_is; rows_are = c.rows_of.ensures; looked = c.look-seen.ensures }) c.held_by.result c.as_slice.result.now c.if-seen.false c.if-seen-2.false c.as_slice.ensures.value c.held_by.ensures (omega arith), put.0 ∙ ap (with_fork_lock (record { reference = c.args.r.0; fork = c.args.fork.now; range = c.args.range })) c.self.view_is)
