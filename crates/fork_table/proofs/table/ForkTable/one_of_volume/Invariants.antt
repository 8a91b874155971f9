use Rattle.std.proofs.Common.{◌≡◌, false, take}
use Rattle.std.specs.List.{list_any}
use Rattle.std.specs.Ordering.{nat_cmp}
use Rattle.sorted_map.specs.map.Entries.{at}
use Rattle.fork_table.specs.ForkTable.{is_of_volume}
use Rattle.fork_table.specs.lemma.Kept.{does_pass}
use Rattle.fork_table.specs.declared.own.OwnRef.{OwnRef}
use Rattle.fork_table.proofs.table.ForkTable.one_of_volume.Given as goal

abbrev pub invariant-loop-entry : goal.invariant-loop-entry
invariant-loop-entry l = list_any (λ (e : OwnRef × Unit {0}). does_pass (is_of_volume l.s.0 l.v.0) (at nat_cmp l.self.opens e.0.reference.0)) (take l.entry-index l.entry-items) ≡ false
