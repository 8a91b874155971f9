use Rattle.std.proofs.Common.{◌≡◌, length}
use Rattle.once_across_breaks_live.specs.lemma.Near.{near}
use Rattle.once_across_breaks_live.proofs.NearLemmas.{Leads}
use Rattle.once_across_breaks_live.proofs.client_end.ClientEnd.take_all.Given as goal

abbrev pub invariant-loop-goes_on : goal.invariant-loop-goes_on
invariant-loop-goes_on l = record {
  leads : Leads (near l.initial.self l.initial.up) (near l.self l.up);
  came : l.self.came ≡ l.initial.self.came;
}

abbrev pub decreases-loop-goes_on : goal.decreases-loop-goes_on
decreases-loop-goes_on l = length l.self.client.held.rest
