use Rattle.std.proofs.Common.{◌∙◌, ◌||◌, sym, ap, filter, map}
use Rattle.std.specs.List.{list_any}
use Rattle.std.specs.Ordering.{nat_cmp}
use Rattle.std.proofs.lemmas.List.{take_all}
use Rattle.std.proofs.lemmas.List.Folds.{list_any_more}
use Rattle.sorted_map.specs.map.Entries.{at}
use Rattle.fork_table.specs.ForkTable.{Table, is_of_volume}
use Rattle.fork_table.specs.lemma.Kept.{does_pass}
use Rattle.fork_table.specs.lemma.Own.{is_own, own_entry}
use Rattle.fork_table.specs.declared.own.OwnRef.{OwnRef}
use Rattle.fork_table.proofs.Owning.{finds_passing, finds_none, of_rows}
use Rattle.fork_table.proofs.table.ForkTable.one_of_volume.Goals as goal
use Rattle.afp_base.proofs.Facts.{left_true}

pub returns-then-is_of_volume : goal.returns-then-is_of_volume
returns-then-is_of_volume c = finds_passing (is_of_volume c.args.s.0 c.args.v.0) c.args.self.now.opens _ (sym c.is_of_volume.ensures ∙ c.if-is_of_volume.true)

pub loop-entry-preserved : goal.loop-entry-preserved
loop-entry-preserved c =
    let passes = λ (e : OwnRef × Unit {0}). does_pass (is_of_volume c.args.s.0 c.args.v.0) (at nat_cmp c.args.self.now.opens e.0.reference.0) in
    let fails = sym c.is_of_volume.ensures ∙ c.if-is_of_volume.false in
    list_any_more passes c.own_of-entry-items.result.now c.loop-entry.entry-index (record { session = record { 0 = 0 }; reference = record { 0 = 0 } }, tt) c.loop-entry-test.true
    ∙ (λ i. c.loop-entry.invariant i || fails i)

pub returns : goal.returns
returns c =
    let passes = λ (e : OwnRef × Unit {0}). does_pass (is_of_volume c.args.s.0 c.args.v.0) (at nat_cmp c.args.self.now.opens e.0.reference.0) in
    let items = c.own_of-entry-items.result.now in
    let mine_is = c.own_of-entry-items.ensures ∙ ap (filter (is_own c.args.s.0)) c.entries.ensures.all ∙ c.self.invariant.sessions c.args.s.0 ∙ ap (λ (t : Table). map own_entry (of_rows c.args.s.0 t.opens)) c.self.view_is in
    let none = sym (ap (list_any passes) (take_all c.loop-entry.entry-index items c.loop-entry-test.false ∙ mine_is)) ∙ c.loop-entry.invariant in
    finds_none c.args.s.0 (is_of_volume c.args.s.0 c.args.v.0) c.args.self.now.opens c.keeps_sound.ensures.rising (λ o h. left_true _ _ h) none
