use Rattle.std.proofs.Common.{subst, sym, List, ℕ}
use Rattle.std.proofs.lemmas.Result.{IfOk-weaker}
use Rattle.once_across_breaks.specs.declared.same.breaks.Break.{Break}
use Rattle.once_across_breaks_drill.specs.rounds.Linked.{WaitsFor}
use Rattle.once_across_breaks_drill.specs.run.lemma.Going.{Reaches}
use Rattle.once_across_breaks_drill.proofs.OfRun.Reaching.{reaches-before, reaches-behind}
use Rattle.once_across_breaks_drill.proofs.run.breaking.reach.Goals as goal

pub returns-in-Before : goal.returns-in-Before
returns-in-Before g c =
    IfOk-weaker c.go_back.result _ _
    (λ r y token id next call w.
    subst (λ (b : Break). Reaches c.args.now token id next call b c.args.linked (g.T.Teller.shown c.args.teller.now) r (g.T.Teller.shown c.go_back.new.teller)) (sym c.in-Before.is)
    (reaches-before c.args.now token id next call c.args.linked (g.T.Teller.shown c.args.teller.now) (g.T.Teller.shown c.go_back.new.teller) r (y token id next call w.linked w.written.good)))
    c.go_back.ensures

pub returns-in-Behind : goal.returns-in-Behind
returns-in-Behind g c =
    IfOk-weaker c.go_behind.result _ _
    (λ r y token id next call w.
    subst (λ (b : Break). Reaches c.args.now token id next call b c.args.linked (g.T.Teller.shown c.args.teller.now) r (g.T.Teller.shown c.go_behind.new.teller)) (sym c.in-Behind.is)
    (reaches-behind c.args.now token id next call c.args.linked (g.T.Teller.shown c.args.teller.now) (g.T.Teller.shown c.go_behind.new.teller) r
    (y token id next call (subst (λ (b : List ℕ). WaitsFor token id next call c.args.linked b) (sym c.as_slice.ensures) w))))
    c.go_behind.ensures
