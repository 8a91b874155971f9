use Rattle.std.proofs.Common.{◌≡◌, ◌<◌, ◌≤◌, ℕ, List, map, length, sym, ap, ◌∙◌, subst, rules}
use Rattle.std.specs.Prelude.{Some, None}
use Rattle.volume_keeper_records.specs.declared.rows.Reason.TheVariants.{Limit}
use Rattle.volume_keeper_records.specs.Shape.{row_in}
use Rattle.volume_keeper_records.specs.KeyOrder.{RisesByKey, with_head_and_root}
use Rattle.volume_keeper_records.specs.FirstBad.{first_bad_among, label_of}
use Rattle.volume_keeper_records.proofs.ForkParts.{ForkLaw}
use Rattle.volume_keeper_records.proofs.Loading.{over_many, judged_counted, counted_rises, loaded_good, said_counted}
use Rattle.volume_keeper_records.proofs.load.load_records.Goals as goal

pub returns-then-len-gt-MOST_RECORDS : goal.returns-then-len-gt-MOST_RECORDS
returns-then-len-gt-MOST_RECORDS c =
    let many : 480000 < length c.args.records.now.items = search rules in
    let key_is : c.in_ok-key.key ≡ c.index.result.now.key = search rules in
    over_many c.args.name.now c.args.records.now.items c.index.result.now many c.index.ensures ∙ ap (λ (k : List ℕ). Some (record { key = k; reason = Limit })) (sym key_is)

pub judge_all-requires-clause-order : goal.judge_all-requires-clause-order
judge_all-requires-clause-order c =
    let is : c.deref-2.result.now ≡ with_head_and_root c.args.records.now.items = search rules in
    subst RisesByKey (sym is) (counted_rises c.args.records.now.items c.requires.order)

pub returns-in-Some : goal.returns-in-Some
returns-in-Some c =
    let few : length c.args.records.now.items ≤ 480000 = search rules in
    let bad : Some c.in-Some.bad ≡ first_bad_among (label_of c.args.name.now c.args.records.now.items) (with_head_and_root c.args.records.now.items) = search rules in
    judged_counted c.args.name.now c.args.records.now.items c.requires.some few ∙ sym bad

pub returns-in_ok-list-in-None : goal.returns-in_ok-list-in-None
returns-in_ok-list-in-None c =
    let law : ForkLaw = record {
      back = c.blocks_are_bytes.ensures.back;
      forth = c.blocks_are_bytes.ensures.forth;
      size = c.blocks_are_bytes.ensures.length;
      rising = c.blocks_of_bytes_are_kept.ensures.rising;
      kept = c.blocks_of_bytes_are_kept.ensures.kept;
      few = c.blocks_of_bytes_are_kept.ensures.few;
    } in
    let few : length c.args.records.now.items ≤ 480000 = search rules in
    let none : first_bad_among (label_of c.args.name.now c.args.records.now.items) (with_head_and_root c.args.records.now.items) ≡ None = search rules in
    let parsed : c.in_ok-rows.rows.items ≡ map (row_in (label_of c.args.name.now c.args.records.now.items)) (with_head_and_root c.args.records.now.items) = search rules in
    loaded_good law c.args.name.now c.args.records.now.items c.in_ok-list-in-None.list.items c.requires.order c.requires.some few none
    (said_counted (label_of c.args.name.now c.args.records.now.items) c.args.records.now.items c.in_ok-list-in-None.list.items c.in_ok-rows.rows.items c.in_ok-list-in-None.ensures parsed)
