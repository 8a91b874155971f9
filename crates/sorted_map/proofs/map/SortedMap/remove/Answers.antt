use Rattle.std.proofs.Common.{◌∙◌, sym, ap, subst}
use Rattle.std.specs.List.Sorted.{IsStrictlySortedBy}
use Rattle.std.specs.Prelude.{None}
use Rattle.std.specs.Ordering.{eq_by_cmp}
use Rattle.std.specs.Map.{keys_of, update}
use Rattle.std.specs.BTreeMap.{is_at}
use Rattle.sorted_map.specs.map.Entries.{at}
use Rattle.sorted_map.proofs.OfMap.Places.{order_removed, at_removed}
use Rattle.sorted_map.proofs.map.SortedMap.remove.Goals as goal

pub invariant_of-self : goal.invariant_of-self
invariant_of-self g c = subst (λ l. IsStrictlySortedBy g.K.Ord.cmp (keys_of l)) (sym c.take.ensures.entries) (order_removed g.met.K.Ord.total (is_at (g.K.Ord.cmp c.args.key)) _ c.self.invariant)

pub returns-clause-updates : goal.returns-clause-updates
returns-clause-updates g c = λ q. ap (λ l. at g.K.Ord.cmp l q) c.take.ensures.entries ∙ at_removed g.met.K.Ord.total c.args.key q _ c.self.invariant ∙ ap (λ l. update (eq_by_cmp g.K.Ord.cmp) (at g.K.Ord.cmp l) c.args.key None q) c.self.view_is
