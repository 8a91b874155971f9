use Rattle.sorted_map.proofs.OfMap.Places.{swapped_back}
use Rattle.sorted_map.proofs.map.swap_values.Goals as goal

pub returns : goal.returns
returns g c d =
    swapped_back c.args.entries.now.items c.swap.new.self.items c.args.x c.args.y d c.requires.x c.requires.y c.swap.ensures.by_index c.index.result.now c.index-2.result.now c.index.ensures c.index-2.ensures
    c.index_mut.result.now c.index_mut-2.result.now c.index_mut.ensures.value c.index_mut-2.ensures.value
