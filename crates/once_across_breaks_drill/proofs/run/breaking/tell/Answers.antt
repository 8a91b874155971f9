use Rattle.std.proofs.Common.{subst, sym, List, ℕ}
use Rattle.std.proofs.lemmas.Result.{IfOk-weaker}
use Rattle.once_across_breaks_drill.specs.rounds.Linked.{WaitsFor}
use Rattle.once_across_breaks_drill.proofs.run.breaking.tell.Goals as goal

pub told_round-requires : goal.told_round-requires
told_round-requires g c =
    let r = c.requires in
    (r.0, r.1, r.2, r.3, subst (λ (b : List ℕ). WaitsFor r.0 r.1 r.2 r.3 c.args.reached.linked b) (sym c.as_slice.ensures) r.4)

pub returns : goal.returns
returns g c =
    IfOk-weaker c.told_round.result _ _ (λ a y token id next call waits. y token id next call (subst (λ (b : List ℕ). WaitsFor token id next call c.args.reached.linked b) (sym c.as_slice.ensures) waits)) c.told_round.ensures
