use Rattle.std.proofs.Common.{◌∙◌, sym, ap}
use Rattle.std.specs.Prelude.{Some}
use Rattle.sorted_map.specs.map.Entries.{at}
use Rattle.sorted_map.proofs.OfMap.Places.{put_over, order_over, updated, taken_value}
use Rattle.sorted_map.proofs.map.SortedMap.replace.Goals as goal

pub invariant_of-self : goal.invariant_of-self
invariant_of-self g c = order_over g.met.K.Ord.total (sym c.self.view_is) c.self.invariant c.requires c.index_mut.result.now c.index_mut.ensures.value c.replace.new.dest

pub returns-clause-old : goal.returns-clause-old
returns-clause-old g c = ap Some c.replace.ensures.value ∙ taken_value g.met.K.Ord.total (sym c.self.view_is) c.self.invariant c.requires c.index_mut.result.now c.index_mut.ensures.value ∙ ap (λ l. at g.K.Ord.cmp l c.args.key) c.self.view_is

pub returns-clause-updates : goal.returns-clause-updates
returns-clause-updates g c = updated g.met.K.Ord.total c.args.self.now c.args.key c.args.value (put_over g.met.K.Ord.total (sym c.self.view_is) c.self.view_is c.self.invariant c.requires c.index_mut.result.now c.index_mut.ensures.value c.replace.new.dest c.args.value c.replace.ensures.after)
