use Rattle.std.proofs.Common.{◌-◌, refl, sym, subst, arith, take, []}
use Rattle.std.specs.Prelude.{option_map}
use Rattle.afp_base.specs.declared.ids.NodeId.{NodeId}
use Rattle.volume_changes.specs.records.EditTouches.{all_touched}
use Rattle.volume_edits.specs.edits.Planned.{edits_of}
use Rattle.volume_edits.proofs.OfEdits.Behind.{Last, last}
use Rattle.volume_changes.specs.steps.lemma.Put.{IsWith, id_key, one_of}
use Rattle.volume_changes.proofs.OfSteps.Gathered.{comments-last, with-last}
use Rattle.volume_changes.proofs.OfSteps.Putting.{with-none}
use Rattle.volume_changes.proofs.steps.touched.+comments_touched.Goals as goal

pub returns-then-count-eq0 : goal.returns-then-count-eq0
returns-then-count-eq0 t c = subst (λ l. IsWith id_key (all_touched c.args.whole.now.state (edits_of (take c.args.count c.args.edits.now))).comments [] l) (sym c.new.ensures.items)
    (subst (λ k. IsWith id_key (all_touched c.args.whole.now.state (edits_of (take k c.args.edits.now))).comments [] []) (sym c.if-count-eq0.true) (with-none id_key [] refl))

pub comments_touched-requires : goal.comments_touched-requires
comments_touched-requires t c =
    let l : Last c.args.whole.now.state c.args.edits.now c.args.count c.index-edits-count.result.edit = last c.args.whole.now.state c.args.edits.now c.args.count c.index-edits-count.result c.if-count-eq0.false c.requires.within c.requires.may c.index-edits-count.is in
    (omega (arith, c.decreases, l.some), (l.within, l.before))

pub returns : goal.returns
returns t c =
    with-last id_key (all_touched c.args.whole.now.state (edits_of (take (c.args.count - 1) c.args.edits.now))).comments (one_of (option_map (λ (n : NodeId). n.0) c.comment_changed.result)) (all_touched c.args.whole.now.state (edits_of (take c.args.count c.args.edits.now))).comments
    c.in_ok-ids.ids.items c.put_node.new.ids.items (comments-last c.args.whole.now.state c.args.edits.now c.args.count c.index-edits-count.result c.if-count-eq0.false c.requires.within c.index-edits-count.is (option_map (λ (n : NodeId). n.0) c.comment_changed.result) c.comment_changed.ensures) c.in_ok-ids.ensures c.in_ok-put_node.ensures
