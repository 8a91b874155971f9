use Rattle.sorted_map.proofs.OfMap.Places.{order_stays}
use Rattle.sorted_map.proofs.map.SortedMap.set_value.Goals as goal

pub invariant_of-self : goal.invariant_of-self
invariant_of-self g c = order_stays g.K.Ord.cmp c.self.view_is c.requires c.self.invariant c.index_mut.result.now c.index_mut.ensures.value c.args.value
