use Rattle.std.proofs.Common.{◌∙◌, ap, sym, subst, ◌+◌, ◌≤◌, length, arith}
use Rattle.volume_spec.specs.Listing.{listed}
use Rattle.node_rows.specs.Children.{child_of}
use Rattle.std.proofs.lemmas.List.{length-map}
use Rattle.node_rows.specs.declared.child.Child.{Child}
use Rattle.volume_tree.proofs.LongNames.{LowestSoFar, lowest-takes, lowest-passes, lowest-ends}
use Rattle.volume_tree.proofs.Siblings.{sibling-here}
use Rattle.volume_tree.specs.lemma.Answered.{lower, option_id}
use Rattle.volume_tree.proofs.volume.Volume.find_long.Goals as goal
use Rattle.volume_tree.proofs.volume.Volume.find_long.Goals.{then-fits, else-fits}

pub loop-child-preserved : goal.loop-child-preserved
loop-child-preserved c =
    let h = sibling-here c.args.self.now.state c.args.dir.0 c.loop-child.child-index c.siblings-siblings.result.now c.child-item.result c.keeps_sound.ensures c.siblings-siblings.ensures c.loop-child-test.true c.child-item.is in
    let fits = sym (c.in_ok-fits.ensures h.row h.at_id) in
    elim c.if-fits.branch [
      | then-fits w ↦
          subst (λ o. LowestSoFar c.args.self.now.state c.args.dir.0 c.args.element.now (c.loop-child.child-index + 1) o) (sym w.found-is)
          (lowest-takes c.args.self.now.state c.args.dir.0 c.args.element.now c.loop-child.child-index c.loop-child.found c.loop-child.invariant h.row h.rest w.lower.result (fits ∙ w.if-fits.true)
          (w.lower.ensures ∙ ap (λ (child : Child). lower (option_id c.loop-child.found) child.id.0) (sym h.is)))
      | else-fits w ↦
          subst (λ o. LowestSoFar c.args.self.now.state c.args.dir.0 c.args.element.now (c.loop-child.child-index + 1) o) (sym w.found-is)
          (lowest-passes c.args.self.now.state c.args.dir.0 c.args.element.now c.loop-child.child-index c.loop-child.found c.loop-child.invariant h.row h.rest (fits ∙ w.if-fits.false))
    ]

pub returns : goal.returns
returns c =
    let behind : length (listed c.args.self.now.state.rows c.args.dir.0) ≤ c.loop-child.child-index =
    let same = ap length c.siblings-siblings.ensures ∙ length-map (listed c.args.self.now.state.rows c.args.dir.0) child_of in omega arith in
    lowest-ends c.args.self.now.state c.args.dir.0 c.args.element.now c.loop-child.child-index c.loop-child.found c.loop-child.invariant c.keeps_sound.ensures behind
