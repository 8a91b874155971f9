use Rattle.std.proofs.Common.{◌-◌, ◌++◌, refl, sym, subst, arith, take, []}
use Rattle.std.specs.Prelude.{option_map}
use Rattle.afp_base.specs.declared.ids.NodeId.{NodeId}
use Rattle.volume_changes.specs.records.EditTouches.{all_touched}
use Rattle.volume_edits.specs.edits.Planned.{edits_of}
use Rattle.volume_edits.proofs.OfEdits.Behind.{Last, last, next-fits}
use Rattle.volume_changes.specs.steps.lemma.Put.{IsWith, id_key, one_of}
use Rattle.volume_changes.proofs.OfSteps.Gathered.{nodes-last, with-last}
use Rattle.volume_changes.proofs.OfSteps.Putting.{with-none}
use Rattle.volume_changes.proofs.steps.touched.+nodes_touched.Goals as goal

pub returns-then-count-eq0 : goal.returns-then-count-eq0
returns-then-count-eq0 t c = subst (λ l. IsWith id_key (all_touched c.args.whole.now.state (edits_of (take c.args.count c.args.edits.now))).nodes [] l) (sym c.new.ensures.items)
    (subst (λ k. IsWith id_key (all_touched c.args.whole.now.state (edits_of (take k c.args.edits.now))).nodes [] []) (sym c.if-count-eq0.true) (with-none id_key [] refl))

pub nodes_touched-requires : goal.nodes_touched-requires
nodes_touched-requires t c =
    let l : Last c.args.whole.now.state c.args.edits.now c.args.count c.index-edits-count.result.edit = last c.args.whole.now.state c.args.edits.now c.args.count c.index-edits-count.result c.if-count-eq0.false c.requires.within c.requires.may c.index-edits-count.is in
    (omega (arith, c.decreases, l.some), (l.within, l.before))

pub next_behind-next-requires-clause-may : goal.next_behind-next-requires-clause-may
next_behind-next-requires-clause-may t c =
    let l : Last c.args.whole.now.state c.args.edits.now c.args.count c.index-edits-count.result.edit = last c.args.whole.now.state c.args.edits.now c.args.count c.index-edits-count.result c.if-count-eq0.false c.requires.within c.requires.may c.index-edits-count.is in
    l.before

pub node_changed-requires : goal.node_changed-requires
node_changed-requires t c = λ comes.
    let l : Last c.args.whole.now.state c.args.edits.now c.args.count c.index-edits-count.result.edit = last c.args.whole.now.state c.args.edits.now c.args.count c.index-edits-count.result c.if-count-eq0.false c.requires.within c.requires.may c.index-edits-count.is in
    next-fits c.args.whole.now.state c.args.edits.now c.args.count c.next_behind-next.result c.index-edits-count.result.edit l c.next_behind-next.ensures comes

pub returns : goal.returns
returns t c =
    with-last id_key (all_touched c.args.whole.now.state (edits_of (take (c.args.count - 1) c.args.edits.now))).nodes (one_of (option_map (λ (n : NodeId). n.0) c.node_changed.result) ++ one_of (option_map (λ (n : NodeId). n.0) c.other_changed.result)) (all_touched c.args.whole.now.state (edits_of (take c.args.count c.args.edits.now))).nodes
    c.in_ok-ids.ids.items c.put_nodes.new.ids.items (nodes-last c.args.whole.now.state c.args.edits.now c.args.count c.index-edits-count.result c.if-count-eq0.false c.requires.within c.index-edits-count.is c.next_behind-next.result (option_map (λ (n : NodeId). n.0) c.node_changed.result) (option_map (λ (n : NodeId). n.0) c.other_changed.result) c.next_behind-next.ensures c.node_changed.ensures c.other_changed.ensures) c.in_ok-ids.ensures c.in_ok-put_nodes.ensures
