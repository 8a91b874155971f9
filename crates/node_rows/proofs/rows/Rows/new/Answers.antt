use Rattle.std.proofs.Common.{◌∙◌, ap, [], ◌∷◌, ◌++◌}
use Rattle.volume_spec.specs.SoundVolume.{has_rising_ids}
use Rattle.node_rows.specs.lemma.Kinds.{child_kinds}
use Rattle.node_rows.proofs.Asked.{keeps-root}
use Rattle.node_rows.proofs.rows.Rows.new.Goals as goal

pub kinds_of-requires : goal.kinds_of-requires
kinds_of-requires c =
    ap has_rising_ids c.as_slice.ensures.value
    ∙ (keeps-root c.push-2.new.self.items c.push.new.self.items c.args.root c.in_ok-child.child c.args.next
    (c.in_ok-push-2.ensures.items ∙ ap (λ l. l ++ c.args.root ∷ []) c.new-nodes.ensures.items)
    (c.in_ok-push.ensures.items ∙ ap (λ l. l ++ c.in_ok-child.child ∷ []) c.new-children.ensures.items)
    c.in_ok-child.ensures c.requires.root c.requires.low c.requires.high).rising

pub invariant_of-result : goal.invariant_of-result
invariant_of-result c = record {
  kept = keeps-root c.push-2.new.self.items c.push.new.self.items c.args.root c.in_ok-child.child c.args.next
      (c.in_ok-push-2.ensures.items ∙ ap (λ l. l ++ c.args.root ∷ []) c.new-nodes.ensures.items)
      (c.in_ok-push.ensures.items ∙ ap (λ l. l ++ c.in_ok-child.child ∷ []) c.new-children.ensures.items)
      c.in_ok-child.ensures c.requires.root c.requires.low c.requires.high;
  kinds_are = c.in_ok-kinds.ensures ∙ (λ i. child_kinds (c.as_slice.ensures.value i) (c.as_slice-2.ensures.value i));
}
