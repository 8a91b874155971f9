use Rattle.std.proofs.Common.{◌≡◌, ◌∙◌, ◌+◌, suc, ap, sym, subst, length, take, arith}
use Rattle.std.proofs.lemmas.List.{length-map}
use Rattle.volume_spec.specs.Listing.{listed}
use Rattle.node_rows.specs.Children.{child_of}
use Rattle.volume_keeper.proofs.OfReplies.Filled.{child-here, counts-row, begins, ends, none-asked, none-there, none-fits, none-counts, jumps, puts, SoFar}
use Rattle.volume_keeper.specs.replies.lemma.Filling.{IsPut}
use Rattle.volume_tree.specs.Shown.{opened}
use Rattle.volume_keeper.proofs.replies.lists.fill.Goals as goal

pub loop-i-init : goal.loop-i-init
loop-i-init c = begins c.args.volume.now.state.rows (opened c.args.opens.now) c.args.asked.now c.args.dir.0 c.args.first c.args.out.now

pub node_at-node-requires : goal.node_at-node-requires
node_at-node-requires c =
    (child-here c.args.volume.now.state c.args.dir.0 c.loop-i.i c.siblings-siblings.result.now c.index-siblings-i.result c.keeps_sound.ensures c.siblings-siblings.ensures c.loop-i-test.true c.index-siblings-i.is).there

pub returns-then-count-most-clause-count : goal.returns-then-count-most-clause-count
returns-then-count-most-clause-count c =
    (ends c.args.volume.now.state.rows (opened c.args.opens.now) c.args.asked.now c.args.dir.0 c.args.first c.args.out.now c.loop-i.out c.loop-i.i c.loop-i.used c.loop-i.count c.loop-i.invariant
    (none-asked c.args.volume.now.state.rows (opened c.args.opens.now) c.args.asked.now c.args.dir.0 c.args.first c.args.out.now c.loop-i.i c.loop-i.used c.loop-i.count (c.if-count-most.true ∙ c.most-most.ensures))).0

pub returns-then-count-most-clause-bytes : goal.returns-then-count-most-clause-bytes
returns-then-count-most-clause-bytes c =
    (ends c.args.volume.now.state.rows (opened c.args.opens.now) c.args.asked.now c.args.dir.0 c.args.first c.args.out.now c.loop-i.out c.loop-i.i c.loop-i.used c.loop-i.count c.loop-i.invariant
    (none-asked c.args.volume.now.state.rows (opened c.args.opens.now) c.args.asked.now c.args.dir.0 c.args.first c.args.out.now c.loop-i.i c.loop-i.used c.loop-i.count (c.if-count-most.true ∙ c.most-most.ensures))).1

pub put_entry-requires-clause-used : goal.put_entry-requires-clause-used
put_entry-requires-clause-used c = c.loop-i.invariant.room

pub put_entry-requires-clause-node : goal.put_entry-requires-clause-node
put_entry-requires-clause-node c =
    let h = child-here c.args.volume.now.state c.args.dir.0 c.loop-i.i c.siblings-siblings.result.now c.index-siblings-i.result c.keeps_sound.ensures c.siblings-siblings.ensures c.loop-i-test.true c.index-siblings-i.is in
    (h.row, c.node_at-node.ensures h.row h.at_id)

pub overflow_add-count : goal.overflow_add-count
overflow_add-count c = let few = c.loop-i.invariant.few in let fits = c.loop-i.auto.count-fits in let other = c.if-count-most.false in let is = c.most-most.ensures in let bound = c.most-most.type_inv in omega (arith, other)

pub returns-in-Ok-None-clause-count : goal.returns-in-Ok-None-clause-count
returns-in-Ok-None-clause-count c =
    let h = child-here c.args.volume.now.state c.args.dir.0 c.loop-i.i c.siblings-siblings.result.now c.index-siblings-i.result c.keeps_sound.ensures c.siblings-siblings.ensures c.loop-i-test.true c.index-siblings-i.is in
    let of_row = c.node_at-node.ensures h.row h.at_id in
    let counts = counts-row c.args.volume.now.state.rows c.args.asked.now c.node_at-node.result.now h.row c.is_counted.result of_row c.is_counted.ensures ∙ c.if-is_counted.true in
    let put = subst (λ o. IsPut c.args.volume.now.state.rows (opened c.args.opens.now) c.args.asked.now h.row c.loop-i.used c.loop-i.out c.put_entry.new.out o) c.in-Ok-None.field-0-is (c.in-Ok-None.ensures.ok h.row of_row) in
    let end = ends c.args.volume.now.state.rows (opened c.args.opens.now) c.args.asked.now c.args.dir.0 c.args.first c.args.out.now c.loop-i.out c.loop-i.i c.loop-i.used c.loop-i.count c.loop-i.invariant
    (none-fits c.args.volume.now.state.rows (opened c.args.opens.now) c.args.asked.now c.args.dir.0 c.args.first c.args.out.now c.loop-i.i c.loop-i.used c.loop-i.count h.row h.rest counts put.0) in
    end.0

pub returns-in-Ok-None-clause-bytes : goal.returns-in-Ok-None-clause-bytes
returns-in-Ok-None-clause-bytes c =
    let h = child-here c.args.volume.now.state c.args.dir.0 c.loop-i.i c.siblings-siblings.result.now c.index-siblings-i.result c.keeps_sound.ensures c.siblings-siblings.ensures c.loop-i-test.true c.index-siblings-i.is in
    let of_row = c.node_at-node.ensures h.row h.at_id in
    let counts = counts-row c.args.volume.now.state.rows c.args.asked.now c.node_at-node.result.now h.row c.is_counted.result of_row c.is_counted.ensures ∙ c.if-is_counted.true in
    let put = subst (λ o. IsPut c.args.volume.now.state.rows (opened c.args.opens.now) c.args.asked.now h.row c.loop-i.used c.loop-i.out c.put_entry.new.out o) c.in-Ok-None.field-0-is (c.in-Ok-None.ensures.ok h.row of_row) in
    let end = ends c.args.volume.now.state.rows (opened c.args.opens.now) c.args.asked.now c.args.dir.0 c.args.first c.args.out.now c.loop-i.out c.loop-i.i c.loop-i.used c.loop-i.count c.loop-i.invariant
    (none-fits c.args.volume.now.state.rows (opened c.args.opens.now) c.args.asked.now c.args.dir.0 c.args.first c.args.out.now c.loop-i.i c.loop-i.used c.loop-i.count h.row h.rest counts put.0) in
    put.1 ∙ end.1

pub returns-in-Err-clause-err : goal.returns-in-Err-clause-err
returns-in-Err-clause-err c = ap (λ l. take (length c.args.out.now) l) c.in-Err.ensures.err ∙ c.loop-i.invariant.stays

pub returns-in-None-clause-count : goal.returns-in-None-clause-count
returns-in-None-clause-count c =
    let h = child-here c.args.volume.now.state c.args.dir.0 c.loop-i.i c.siblings-siblings.result.now c.index-siblings-i.result c.keeps_sound.ensures c.siblings-siblings.ensures c.loop-i-test.true c.index-siblings-i.is in
    let of_row = c.node_at-node.ensures h.row h.at_id in
    let counts = counts-row c.args.volume.now.state.rows c.args.asked.now c.node_at-node.result.now h.row c.is_counted.result of_row c.is_counted.ensures ∙ c.if-is_counted.false in
    (ends c.args.volume.now.state.rows (opened c.args.opens.now) c.args.asked.now c.args.dir.0 c.args.first c.args.out.now c.loop-i.out c.loop-i.i c.loop-i.used c.loop-i.count c.loop-i.invariant
    (none-counts c.args.volume.now.state.rows (opened c.args.opens.now) c.args.asked.now c.args.dir.0 c.args.first c.args.out.now c.loop-i.i c.loop-i.used c.loop-i.count h.row h.rest counts c.in-None.ensures)).0

pub returns-in-None-clause-bytes : goal.returns-in-None-clause-bytes
returns-in-None-clause-bytes c =
    let h = child-here c.args.volume.now.state c.args.dir.0 c.loop-i.i c.siblings-siblings.result.now c.index-siblings-i.result c.keeps_sound.ensures c.siblings-siblings.ensures c.loop-i-test.true c.index-siblings-i.is in
    let of_row = c.node_at-node.ensures h.row h.at_id in
    let counts = counts-row c.args.volume.now.state.rows c.args.asked.now c.node_at-node.result.now h.row c.is_counted.result of_row c.is_counted.ensures ∙ c.if-is_counted.false in
    (ends c.args.volume.now.state.rows (opened c.args.opens.now) c.args.asked.now c.args.dir.0 c.args.first c.args.out.now c.loop-i.out c.loop-i.i c.loop-i.used c.loop-i.count c.loop-i.invariant
    (none-counts c.args.volume.now.state.rows (opened c.args.opens.now) c.args.asked.now c.args.dir.0 c.args.first c.args.out.now c.loop-i.i c.loop-i.used c.loop-i.count h.row h.rest counts c.in-None.ensures)).1

pub loop-i-preserved-in-Ok-Some : goal.loop-i-preserved-in-Ok-Some
loop-i-preserved-in-Ok-Some c =
    let h = child-here c.args.volume.now.state c.args.dir.0 c.loop-i.i c.siblings-siblings.result.now c.index-siblings-i.result c.keeps_sound.ensures c.siblings-siblings.ensures c.loop-i-test.true c.index-siblings-i.is in
    let of_row = c.node_at-node.ensures h.row h.at_id in
    let counts = counts-row c.args.volume.now.state.rows c.args.asked.now c.node_at-node.result.now h.row c.is_counted.result of_row c.is_counted.ensures ∙ c.if-is_counted.true in
    let put = subst (λ o. IsPut c.args.volume.now.state.rows (opened c.args.opens.now) c.args.asked.now h.row c.loop-i.used c.loop-i.out c.put_entry.new.out o) c.in-Ok-Some.field-0-is (c.in-Ok-Some.ensures.ok h.row of_row) in
    let one : suc c.loop-i.i ≡ c.loop-i.i + 1 = omega arith in
    subst (λ n. SoFar c.args.volume.now.state.rows (opened c.args.opens.now) c.args.asked.now c.args.dir.0 c.args.first c.args.out.now c.put_entry.new.out n c.in-Ok-Some.more (c.loop-i.count + 1)) one
    (puts c.args.volume.now.state.rows (opened c.args.opens.now) c.args.asked.now c.args.dir.0 c.args.first c.args.out.now c.loop-i.i c.loop-i.used c.loop-i.count h.row h.rest c.loop-i.out c.put_entry.new.out c.in-Ok-Some.more
    c.loop-i.invariant counts (λ all. c.if-count-most.false (all ∙ sym c.most-most.ensures)) put)

pub loop-i-preserved : goal.loop-i-preserved
loop-i-preserved c =
    let h = child-here c.args.volume.now.state c.args.dir.0 c.loop-i.i c.siblings-siblings.result.now c.index-siblings-i.result c.keeps_sound.ensures c.siblings-siblings.ensures c.loop-i-test.true c.index-siblings-i.is in
    let of_row = c.node_at-node.ensures h.row h.at_id in
    let counts = counts-row c.args.volume.now.state.rows c.args.asked.now c.node_at-node.result.now h.row c.is_counted.result of_row c.is_counted.ensures ∙ c.if-is_counted.false in
    jumps c.args.volume.now.state.rows (opened c.args.opens.now) c.args.asked.now c.args.dir.0 c.args.first c.args.out.now c.loop-i.i c.loop-i.used c.loop-i.count h.row h.rest c.loop-i.out c.in-Some.next
    c.loop-i.invariant counts c.in-Some.ensures.2

pub returns-clause-count : goal.returns-clause-count
returns-clause-count c =
    (ends c.args.volume.now.state.rows (opened c.args.opens.now) c.args.asked.now c.args.dir.0 c.args.first c.args.out.now c.loop-i.out c.loop-i.i c.loop-i.used c.loop-i.count c.loop-i.invariant
    (none-there c.args.volume.now.state.rows (opened c.args.opens.now) c.args.asked.now c.args.dir.0 c.args.first c.args.out.now c.loop-i.i c.loop-i.used c.loop-i.count
    (let same : length c.siblings-siblings.result.now ≡ length (listed c.args.volume.now.state.rows c.args.dir.0) = ap length c.siblings-siblings.ensures ∙ length-map (listed c.args.volume.now.state.rows c.args.dir.0) child_of in omega arith))).0

pub returns-clause-bytes : goal.returns-clause-bytes
returns-clause-bytes c =
    (ends c.args.volume.now.state.rows (opened c.args.opens.now) c.args.asked.now c.args.dir.0 c.args.first c.args.out.now c.loop-i.out c.loop-i.i c.loop-i.used c.loop-i.count c.loop-i.invariant
    (none-there c.args.volume.now.state.rows (opened c.args.opens.now) c.args.asked.now c.args.dir.0 c.args.first c.args.out.now c.loop-i.i c.loop-i.used c.loop-i.count
    (let same : length c.siblings-siblings.result.now ≡ length (listed c.args.volume.now.state.rows c.args.dir.0) = ap length c.siblings-siblings.ensures ∙ length-map (listed c.args.volume.now.state.rows c.args.dir.0) child_of in omega arith))).1
