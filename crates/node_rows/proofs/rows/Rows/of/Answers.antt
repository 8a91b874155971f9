use Rattle.std.proofs.Common.{◌∙◌, ap, subst, map, List}
use Rattle.volume_spec.specs.VolumeState.{Row}
use Rattle.std.specs.List.Sorted.{IsPermutation}
use Rattle.node_rows.specs.lemma.Kinds.{child_kinds}
use Rattle.node_rows.proofs.SortedOnce.{keeps-sorted}
use Rattle.node_rows.specs.Children.{child_of}
use Rattle.node_rows.specs.declared.child.Child.{Child}
use Rattle.node_rows.proofs.rows.Rows.of.Goals as goal

pub invariant_of-result : goal.invariant_of-result
invariant_of-result c = record {
  kept = keeps-sorted c.args.nodes.items c.sort.new.children.items c.args.next c.requires.rising c.requires.below c.requires.apart c.requires.low c.requires.high
      (subst (λ (l : List Child). IsPermutation l c.sort.new.children.items) (c.in_ok-children.ensures ∙ ap (λ (l : List Row). map child_of l) c.as_slice.ensures.value) c.sort.ensures.same) c.sort.ensures.sorted;
  kinds_are = c.in_ok-kinds.ensures ∙ (λ i. child_kinds (c.as_slice-2.ensures.value i) (c.as_slice-3.ensures.value i));
}
