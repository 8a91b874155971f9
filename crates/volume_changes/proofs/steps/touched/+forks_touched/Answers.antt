use Rattle.std.proofs.Common.{◌-◌, ◌++◌, refl, sym, subst, arith, take, []}
use Rattle.std.specs.Prelude.{option_map}
use Rattle.afp_base.specs.declared.ids.NodeId.{NodeId}
use Rattle.volume_changes.specs.records.EditTouches.{all_touched}
use Rattle.volume_edits.specs.edits.Planned.{edits_of}
use Rattle.volume_edits.proofs.OfEdits.Behind.{Last, last, next-fits}
use Rattle.volume_changes.specs.steps.lemma.Put.{IsWith, fork_key}
use Rattle.volume_changes.specs.steps.lemma.Touching.{places_in}
use Rattle.volume_changes.proofs.OfSteps.Gathered.{forks-last, with-last}
use Rattle.volume_changes.proofs.OfSteps.Putting.{with-none}
use Rattle.volume_changes.proofs.steps.touched.+forks_touched.Goals as goal

pub returns-then-count-eq0 : goal.returns-then-count-eq0
returns-then-count-eq0 t c = subst (λ l. IsWith fork_key (all_touched c.args.whole.now.state (edits_of (take c.args.count c.args.edits.now))).forks [] l) (sym c.new.ensures.items)
    (subst (λ k. IsWith fork_key (all_touched c.args.whole.now.state (edits_of (take k c.args.edits.now))).forks [] []) (sym c.if-count-eq0.true) (with-none fork_key [] refl))

pub forks_touched-requires : goal.forks_touched-requires
forks_touched-requires t c =
    let l : Last c.args.whole.now.state c.args.edits.now c.args.count c.index-edits-count.result.edit = last c.args.whole.now.state c.args.edits.now c.args.count c.index-edits-count.result c.if-count-eq0.false c.requires.within c.requires.may c.index-edits-count.is in
    (omega (arith, c.decreases, l.some), (l.within, l.before))

pub next_behind-next-requires-clause-may : goal.next_behind-next-requires-clause-may
next_behind-next-requires-clause-may t c =
    let l : Last c.args.whole.now.state c.args.edits.now c.args.count c.index-edits-count.result.edit = last c.args.whole.now.state c.args.edits.now c.args.count c.index-edits-count.result c.if-count-eq0.false c.requires.within c.requires.may c.index-edits-count.is in
    l.before

pub node_changed-requires : goal.node_changed-requires
node_changed-requires t c = λ comes.
    let l : Last c.args.whole.now.state c.args.edits.now c.args.count c.index-edits-count.result.edit = last c.args.whole.now.state c.args.edits.now c.args.count c.index-edits-count.result c.if-count-eq0.false c.requires.within c.requires.may c.index-edits-count.is in
    next-fits c.args.whole.now.state c.args.edits.now c.args.count c.next_behind-next.result c.index-edits-count.result.edit l c.next_behind-next.ensures comes

pub returns : goal.returns
returns t c =
    with-last fork_key (all_touched c.args.whole.now.state (edits_of (take (c.args.count - 1) c.args.edits.now))).forks (places_in c.index-edits-count.result.edit (option_map (λ (n : NodeId). n.0) c.node_changed.result) ++ places_in c.index-edits-count.result.edit (option_map (λ (n : NodeId). n.0) c.other_changed.result)) (all_touched c.args.whole.now.state (edits_of (take c.args.count c.args.edits.now))).forks
    c.in_ok-forks.forks.items c.put_forks.new.forks.items (forks-last c.args.whole.now.state c.args.edits.now c.args.count c.index-edits-count.result c.if-count-eq0.false c.requires.within c.index-edits-count.is c.next_behind-next.result (option_map (λ (n : NodeId). n.0) c.node_changed.result) (option_map (λ (n : NodeId). n.0) c.other_changed.result) c.next_behind-next.ensures c.node_changed.ensures c.other_changed.ensures) c.in_ok-forks.ensures c.in_ok-put_forks.ensures
