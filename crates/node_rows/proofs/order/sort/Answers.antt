use Rattle.std.proofs.Common.{rules, ◌≡◌}
use Rattle.std.specs.Ordering.{is_lt}
use Rattle.std.proofs.lemmas.Cmp.{nat_list_cmp_total}
use Rattle.std.proofs.lemmas.Fn.{always_returns_same}
use Rattle.std.proofs.lemmas.List.MinMax.{ranks_by}
use Rattle.volume_spec.specs.Order.{stands_before}
use Rattle.node_rows.specs.Children.{child_order}
use Rattle.node_rows.specs.declared.child.Child.{Child}
use Rattle.node_rows.proofs.order.sort.Goals as goal

pub returns-clause-sorted : goal.returns-clause-sorted
returns-clause-sorted c =
    c.sort_unstable_by.ensures.sorted (λ (a : Child) b. stands_before (child_order a) (child_order b)) (ranks_by nat_list_cmp_total child_order)
    (always_returns_same _ (λ a r. is_lt r ≡ stands_before (child_order a.0.now) (child_order a.1.0.now)) _ (λ a r f k. search rules))
