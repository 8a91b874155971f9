use Rattle.std.proofs.Common.{◌≡◌, ℕ, ◌<◌, length, List, map, take, sym, ap, ◌∙◌, subst, rules}
use Rattle.std.specs.Prelude.{Some, None}
use Rattle.std.specs.List.Sorted.{IsStrictlySortedBy}
use Rattle.std.specs.Ordering.{nat_cmp}
use Rattle.volume_keeper_records.specs.declared.tree.Place.{Place}
use Rattle.volume_keeper_records.specs.declared.tree.Tree.{Tree}
use Rattle.volume_keeper_records.specs.lemma.Climb.{id_of}
use Rattle.volume_keeper_records.specs.FirstBad.{rows_in}
use Rattle.volume_keeper_records.specs.lemma.Judged.{Before, IsTreeOf, HasBefore, places_in, next_in}
use Rattle.volume_keeper_records.proofs.Passing.{before_of, places_sorted, row_read, short_read, named_read, one_judged, why_among, pushed_before}
use Rattle.volume_keeper_records.proofs.pass.judge_all.Goals as goal

pub grow-requires-clause-order : goal.grow-requires-clause-order
grow-requires-clause-order c = subst (λ (ps : List Place). IsStrictlySortedBy nat_cmp (map id_of ps)) (sym c.in_ok-places.ensures) (places_sorted (record { version = c.args.version; name = c.args.name.now }) c.args.records.now c.args.rows.now c.requires.parsed c.requires.order)

pub judge_row-requires-clause-short : goal.judge_row-requires-clause-short
judge_row-requires-clause-short c =
    let in_records : c.loop-i.i < length c.args.records.now = search rules in
    let read = row_read (record { version = c.args.version; name = c.args.name.now }) c.args.records.now c.args.rows.now c.requires.parsed c.loop-i.i c.index-records-i.result c.index-rows-i.result in_records c.index-records-i.is c.index-rows-i.is in
    short_read (record { version = c.args.version; name = c.args.name.now }) c.index-records-i.result c.index-rows-i.result read

pub returns-in-Some : goal.returns-in-Some
returns-in-Some c =
    let in_records : c.loop-i.i < length c.args.records.now = search rules in
    let read = row_read (record { version = c.args.version; name = c.args.name.now }) c.args.records.now c.args.rows.now c.requires.parsed c.loop-i.i c.index-records-i.result c.index-rows-i.result in_records c.index-records-i.is c.index-rows-i.is in
    let named = named_read (record { version = c.args.version; name = c.args.name.now }) c.index-records-i.result c.index-rows-i.result read in
    let judged = c.in_ok-reason.ensures.reason named (before_of (rows_in (record { version = c.args.version; name = c.args.name.now }) (take c.loop-i.i c.args.records.now))) c.loop-i.invariant.before in
    let why = why_among c.in_ok-reason.field-0 c.loop-i.pass.tree.places.items (places_in c.args.rows.now) c.loop-i.pass.next (next_in c.args.rows.now) (before_of (rows_in (record { version = c.args.version; name = c.args.name.now }) (take c.loop-i.i c.args.records.now))) c.index-rows-i.result judged.why c.loop-i.invariant.tree.same c.loop-i.invariant.next in
    let key_is : c.in_ok-key-in-Some.key ≡ c.index-records-i.result.key = search rules in
    ap (λ (k : List ℕ). Some (record { key = k; reason = c.in-Some.reason })) key_is
    ∙ sym (c.loop-i.invariant.rest
    ∙ one_judged (record { version = c.args.version; name = c.args.name.now }) c.args.records.now c.args.rows.now c.requires.parsed c.requires.order c.loop-i.i c.index-records-i.result c.index-rows-i.result (Some c.in-Some.reason) in_records c.index-records-i.is c.index-rows-i.is (sym c.in-Some.is ∙ why))

pub loop-i-preserved : goal.loop-i-preserved
loop-i-preserved c =
    let in_records : c.loop-i.i < length c.args.records.now = search rules in
    let read = row_read (record { version = c.args.version; name = c.args.name.now }) c.args.records.now c.args.rows.now c.requires.parsed c.loop-i.i c.index-records-i.result c.index-rows-i.result in_records c.index-records-i.is c.index-rows-i.is in
    let named = named_read (record { version = c.args.version; name = c.args.name.now }) c.index-records-i.result c.index-rows-i.result read in
    let judged = c.in_ok-reason.ensures.reason named (before_of (rows_in (record { version = c.args.version; name = c.args.name.now }) (take c.loop-i.i c.args.records.now))) c.loop-i.invariant.before in
    let why = why_among c.in_ok-reason.field-0 c.loop-i.pass.tree.places.items (places_in c.args.rows.now) c.loop-i.pass.next (next_in c.args.rows.now) (before_of (rows_in (record { version = c.args.version; name = c.args.name.now }) (take c.loop-i.i c.args.records.now))) c.index-rows-i.result judged.why c.loop-i.invariant.tree.same c.loop-i.invariant.next in
    let same = c.in_ok-reason.ensures.same in
    record {
      tree = subst (λ (t : Tree). IsTreeOf (places_in c.args.rows.now) t) (sym same.tree) c.loop-i.invariant.tree;
      next = same.next ∙ c.loop-i.invariant.next;
      few = same.few;
      before = subst (λ (b : Before). HasBefore b c.judge_row.new.pass) (sym (pushed_before (record { version = c.args.version; name = c.args.name.now }) c.args.records.now c.loop-i.i c.index-records-i.result c.index-rows-i.result in_records c.index-records-i.is read)) (judged.after c.in-None.is);
      rest = c.loop-i.invariant.rest
          ∙ one_judged (record { version = c.args.version; name = c.args.name.now }) c.args.records.now c.args.rows.now c.requires.parsed c.requires.order c.loop-i.i c.index-records-i.result c.index-rows-i.result None in_records c.index-records-i.is c.index-rows-i.is (sym c.in-None.is ∙ why);
    }
