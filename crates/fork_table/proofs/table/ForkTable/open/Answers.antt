use Rattle.std.proofs.Common.{◌∙◌, sym, ap}
use Rattle.deny_modes.specs.Opens.{has_reference, without_reference}
use Rattle.fork_table.specs.ForkTable.{is_open_reference}
use Rattle.fork_table.proofs.Keeping.{fresh, forgotten, table_opened, table_same}
use Rattle.fork_table.proofs.table.ForkTable.open.Goals as goal

pub note-requires-clause-fresh : goal.note-requires-clause-fresh
note-requires-clause-fresh c =
    ap (λ l. has_reference l c.lowest_free-r.result) c.self.invariant.shown
    ∙ fresh c.self.inside.rows c.lowest_free-r.result (sym (ap (λ l. is_open_reference l c.lowest_free-r.result) c.entries.ensures.all) ∙ c.lowest_free-r.ensures.free)

pub invariant_of-self-in-Ok-put_row : goal.invariant_of-self-in-Ok-put_row
invariant_of-self-in-Ok-put_row c =
    table_opened c.lowest_free-r.result (record { session = c.args.s; fork = c.args.fork; mode = c.args.mode }) c.self.invariant c.lowest_free-r.ensures.first
    (sym (ap (λ l. is_open_reference l c.lowest_free-r.result) c.entries.ensures.all) ∙ c.lowest_free-r.ensures.free) c.in-Ok-put_row.ensures.rows c.in-Ok-put_row.ensures.own c.in-Ok.ensures.ok

pub invariant_of-self-in_default-put_row : goal.invariant_of-self-in_default-put_row
invariant_of-self-in_default-put_row c =
    let free = sym (ap (λ l. is_open_reference l c.lowest_free-r.result) c.entries.ensures.all) ∙ c.lowest_free-r.ensures.free in
    let none = ap (λ l. has_reference l c.lowest_free-r.result) c.self.invariant.shown ∙ fresh c.self.inside.rows c.lowest_free-r.result free in
    let opens_are = c.forget.ensures ∙ ap (without_reference c.lowest_free-r.result) c.in-Ok.ensures.ok ∙ forgotten c.self.inside.opens (record { reference = c.lowest_free-r.result; fork = c.args.fork; access = c.args.mode }) none in
    table_same c.self.invariant c.in_default-put_row.ensures.err.0 c.in_default-put_row.ensures.err.1 opens_are
