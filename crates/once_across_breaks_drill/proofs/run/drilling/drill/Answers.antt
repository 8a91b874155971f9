use Rattle.std.proofs.Common.{ℕ, None, ap, subst, sym}
use Rattle.std.specs.Prelude.{codes, map}
use Rattle.afp_serial.specs.Shown.{Shown}
use Rattle.capture_made.specs.requests.Requests.{first_moment}
use Rattle.once_across_breaks_drill.specs.rounds.Linked.{IsLinked, as_told}
use Rattle.once_across_breaks_drill.specs.declared.rounds.opening.Linked.{Linked}
use Rattle.once_across_breaks_drill.specs.steps.Drilling.{house, token}
use Rattle.once_across_breaks_drill.specs.run.Drilled.{IsDrilled}
use Rattle.once_across_breaks_drill.specs.run.lemma.Going.{Begins, RunsSteps}
use Rattle.once_across_breaks_drill.proofs.OfRun.Ending.{begun, drilled, volume-spellable, volume-typed}
use Rattle.once_across_breaks_drill.proofs.run.drilling.drill.Goals as goal

pub run_steps-requires-clause-linked : goal.run_steps-requires-clause-linked
run_steps-requires-clause-linked g c =
    let x : Begins house first_moment c.in_ok-answered.answered (g.M.Made.Teller.shown c.begin.new.teller) =
    begun c.in_ok-house.house c.in_ok-now.now c.in_ok-answered.answered (g.M.Made.Teller.shown c.begin.new.teller) c.in_ok-house.ensures c.in_ok-now.ensures c.in_ok-answered.ensures in
    (token, subst (λ (l : Linked). IsLinked token None 4 l) (sym c.in_ok-first.ensures.linked) x.linked)

pub returns : goal.returns
returns g c =
    let v = g.M.Made.Teller.shown c.begin.new.teller in
    let u = g.M.Made.Teller.shown c.run_steps.new.teller in
    let a = c.in_ok-answered.answered in
    let going = c.in_ok-going.going in
    let d = c.ended.result in
    let ends = c.ended.ensures in
    let first = c.in_ok-first.ensures in
    let before = map as_told c.in_ok-first.first.results.items in
    let x : Begins house first_moment a v = begun c.in_ok-house.house c.in_ok-now.now a v c.in_ok-house.ensures c.in_ok-now.ensures c.in_ok-answered.ensures in
    let runs : RunsSteps token c.args.number c.args.steps a.linked before v going u =
    subst (λ (l : Linked). RunsSteps token c.args.number c.args.steps l before v going u) first.linked (c.in_ok-going.ensures token (subst (λ (l : Linked). IsLinked token None 4 l) (sym first.linked) x.linked)) in
    subst (λ (t : Shown). IsDrilled c.args.number c.args.steps d t) (ap g.M.Made.Teller.shown (sym ends.teller))
    (drilled c.args.number c.args.steps d a before going v u (c.first_openings_are_told.ensures house first_moment 0x20 (codes "Share") volume-typed volume-spellable)
    (c.drills_are_told_the_same.ensures c.args.number c.args.steps c.requires) x (ap (map as_told) first.results) runs ends.counts ends.client ends.results ends.answered)
