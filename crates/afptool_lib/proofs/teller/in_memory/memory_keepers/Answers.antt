use Rattle.std.proofs.Common.{rules, ◌≡◌, ap, ◌∙◌, sym, subst, [], ◌∷◌, ◌++◌, List, Bool}
use Rattle.std.specs.Prelude.{Some, Option}
use Rattle.record_keeper.specs.Planned.{MemoryState, never_fails}
use Rattle.record_keeper.specs.Records.{Records}
use Rattle.afptool_lib.specs.teller.Keepers.{AreNew, IsNew}
use Rattle.afptool_lib.proofs.OfTeller.FreshVolumes.{one-more}
use Rattle.afptool_lib.proofs.teller.in_memory.memory_keepers.Goals as goal

pub loop-alloc-preserved : goal.loop-alloc-preserved
loop-alloc-preserved c =
    let items : c.push.new.self.items ≡ c.loop-alloc.keepers.items ++ c.new-in-loop-alloc.result ∷ [] = search rules in
    let records : MemoryState → Option Records = λ k. Some k.records in
    let sure : MemoryState → Bool = λ k. never_fails k.planned in
    let one : MemoryState = c.new-in-loop-alloc.result in
    let is : IsNew (records one) (sure one) = record {
      empty = ap Some c.new-in-loop-alloc.ensures.empty;
      never_fails = ap never_fails c.new-in-loop-alloc.ensures.planned ∙ search rules;
    } in
    record {
      most = search rules;
      new = subst (λ (l : List MemoryState). AreNew records sure l) (sym items) (one-more records sure c.loop-alloc.keepers.items one c.loop-alloc.invariant.new is);
    }
