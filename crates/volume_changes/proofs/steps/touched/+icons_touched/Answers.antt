use Rattle.std.proofs.Common.{◌-◌, refl, sym, subst, arith, take, []}
use Rattle.volume_changes.specs.records.EditTouches.{all_touched}
use Rattle.volume_edits.specs.edits.Changed.{icon_changed}
use Rattle.volume_edits.specs.edits.Planned.{edits_of}
use Rattle.volume_edits.proofs.OfEdits.Behind.{Last, last}
use Rattle.volume_changes.specs.steps.lemma.Put.{IsWith, icon_key, one_of}
use Rattle.volume_changes.proofs.OfSteps.Gathered.{icons-last, with-last}
use Rattle.volume_changes.proofs.OfSteps.Putting.{with-none}
use Rattle.volume_changes.proofs.steps.touched.+icons_touched.Goals as goal

pub returns-then-count-eq0 : goal.returns-then-count-eq0
returns-then-count-eq0 t c = subst (λ l. IsWith icon_key (all_touched c.args.whole.now.state (edits_of (take c.args.count c.args.edits.now))).icons [] l) (sym c.new.ensures.items)
    (subst (λ k. IsWith icon_key (all_touched c.args.whole.now.state (edits_of (take k c.args.edits.now))).icons [] []) (sym c.if-count-eq0.true) (with-none icon_key [] refl))

pub icons_touched-requires : goal.icons_touched-requires
icons_touched-requires t c =
    let l : Last c.args.whole.now.state c.args.edits.now c.args.count c.index-edits-count.result.edit = last c.args.whole.now.state c.args.edits.now c.args.count c.index-edits-count.result c.if-count-eq0.false c.requires.within c.requires.may c.index-edits-count.is in
    (omega (arith, c.decreases, l.some), (l.within, l.before))

pub returns : goal.returns
returns t c =
    with-last icon_key (all_touched c.args.whole.now.state (edits_of (take (c.args.count - 1) c.args.edits.now))).icons (one_of (icon_changed c.index-edits-count.result.edit)) (all_touched c.args.whole.now.state (edits_of (take c.args.count c.args.edits.now))).icons
    c.in_ok-keys.keys.items c.put_icon.new.keys.items (icons-last c.args.whole.now.state c.args.edits.now c.args.count c.index-edits-count.result c.if-count-eq0.false c.requires.within c.index-edits-count.is) c.in_ok-keys.ensures c.in_ok-put_icon.ensures
