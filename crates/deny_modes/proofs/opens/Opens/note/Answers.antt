use Rattle.std.proofs.Common.{◌∙◌, ap, sym, subst, arith}
use Rattle.deny_modes.specs.Counters.{opens_of}
use Rattle.deny_modes.specs.lemma.Counters.{IsTallied}
use Rattle.deny_modes.proofs.Counting.{can_count, noted_shows, noted_counted, undone}
use Rattle.deny_modes.proofs.opens.Opens.note.Goals as goal

pub one_more-tally-requires : goal.one_more-tally-requires
one_more-tally-requires c = can_count c.self.invariant c.args.fork c.in-Ok.ensures.was_sorted

pub invariant_of-self-in-Ok-insert : goal.invariant_of-self-in-Ok-insert
invariant_of-self-in-Ok-insert c =
    noted_counted (record { was = c.self.invariant; shown = c.self.view_is; fresh = c.requires.fresh; free = c.requires.free; new_rows = c.in-Ok.ensures.entries }) c.one_more-tally.result (omega arith) c.one_more-tally.ensures c.in-Ok-insert.ensures.updates

pub invariant_of-self-in_default-insert : goal.invariant_of-self-in_default-insert
invariant_of-self-in_default-insert c =
    let rows_are = undone (record { was = c.self.invariant; shown = c.self.view_is; fresh = c.requires.fresh; free = c.requires.free; new_rows = c.in-Ok.ensures.entries }) c.remove.ensures.entries in
    subst (λ l. IsTallied l c.insert-2.new.self) (sym rows_are) (subst (IsTallied c.self.inside.rows) (sym c.in_default-insert.ensures.err) c.self.invariant)

pub returns-in_default-insert-clause-err : goal.returns-in_default-insert-clause-err
returns-in_default-insert-clause-err c =
    ap opens_of (undone (record { was = c.self.invariant; shown = c.self.view_is; fresh = c.requires.fresh; free = c.requires.free; new_rows = c.in-Ok.ensures.entries }) c.remove.ensures.entries) ∙ c.self.view_is

pub returns-clause-ok : goal.returns-clause-ok
returns-clause-ok c = noted_shows (record { was = c.self.invariant; shown = c.self.view_is; fresh = c.requires.fresh; free = c.requires.free; new_rows = c.in-Ok.ensures.entries })
