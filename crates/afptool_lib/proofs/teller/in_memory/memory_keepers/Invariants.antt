use Rattle.std.proofs.Common.{◌≤◌, ◌-◌, length}
use Rattle.std.specs.Prelude.{Some}
use Rattle.record_keeper.specs.Planned.{MemoryState, never_fails}
use Rattle.afptool_lib.specs.teller.Keepers.{AreNew}
use Rattle.afptool_lib.proofs.teller.in_memory.memory_keepers.Given as goal

abbrev pub invariant-loop-alloc : goal.invariant-loop-alloc
invariant-loop-alloc l = record {
  most : length l.keepers.items ≤ 8;
  new : AreNew (λ (k : MemoryState). Some k.records) (λ (k : MemoryState). never_fails k.planned) l.keepers.items;
}

abbrev pub decreases-loop-alloc : goal.decreases-loop-alloc
decreases-loop-alloc l = 8 - length l.keepers.items
