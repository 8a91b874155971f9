use Rattle.std.proofs.Common.{sym, subst}
use Rattle.std.specs.List.Sorted.{IsStrictlySortedBy}
use Rattle.std.specs.Map.{keys_of}
use Rattle.sorted_map.proofs.OfMap.Places.{order_none}
use Rattle.sorted_map.proofs.map.SortedMap.new.Goals as goal

pub invariant_of-result : goal.invariant_of-result
invariant_of-result g c = subst (λ l. IsStrictlySortedBy g.K.Ord.cmp (keys_of l)) (sym c.new.ensures.items) (order_none g.row.V.Denot g.K.Ord.cmp)
