use Rattle.std.proofs.Common.{List, length, arith, ap, sym, subst, ◌∙◌, Some, None}
use Rattle.std.proofs.lemmas.Bool.{and_parts}
use Rattle.once_across_breaks_code.specs.run.Things as things
use Rattle.once_across_breaks_live.specs.declared.happening.Happening.TheVariants as happenings
use Rattle.once_across_breaks_live.specs.declared.lane.Lane.{Lane}
use Rattle.once_across_breaks_live.specs.lemma.Lanes.{ChangesAt, LosesLane, IsLane}
use Rattle.once_across_breaks_live.specs.lemma.Running.{Comes}
use Rattle.once_across_breaks_live.proofs.RunningLemmas.{lent_back, placed, lost-comes, lost-none}
use Rattle.once_across_breaks_live.proofs.running.Running.lost.Goals as goal

pub returns-in-None-clause-comes : goal.returns-in-None-clause-comes
returns-in-None-clause-comes g c = λ block sure t answered st.
    lost-none (record { block = block; answered = sure }) c.args.link c.args.now c.args.self.now.end c.args.self.now.lanes.items (g.T.Teller.shown c.args.self.now.teller) t st
    (placed c.args.link c.len.result c.args.self.now.lanes.items c.place_of.result None c.place_of.ensures c.in-None.is (c.len.ensures ∙ c.args.self.now.lanes.ok.0))

pub lose_at-told-requires : goal.lose_at-told-requires
lose_at-told-requires g c =
    let place = placed c.args.link c.len.result c.args.self.now.lanes.items c.place_of.result (Some c.in-Some.place) c.place_of.ensures c.in-Some.is (c.len.ensures ∙ c.args.self.now.lanes.ok.0) in
    omega (arith, place.2, ap length c.as_mut_slice-lanes.ensures.value)

pub returns-in-Some-clause-comes : goal.returns-in-Some-clause-comes
returns-in-Some-clause-comes g c = λ block sure t answered st.
    let items = c.args.self.now.lanes.items in
    let slots = c.lose_at-told.new.lanes in
    let a = g.T.Teller.shown c.args.self.now.teller in
    let b = g.T.Teller.shown c.lose_at-told.new.teller in
    let back = lent_back c.args.self.now.lanes.len slots items (omega (arith, c.lose_at-told.auto.lanes, ap length c.as_mut_slice-lanes.ensures.value)) (omega (arith, c.as_mut_slice-lanes.ensures.len, ap length c.as_mut_slice-lanes.ensures.value)) in
    subst (λ (ls : List Lane). Comes (record { block = block; answered = sure }) (happenings.Lost c.args.link c.args.now) t c.args.self.now.end ls b) (sym back)
    (lost-comes (record { block = block; answered = sure }) c.lose_at-told.result c.args.link c.args.now c.in-Some.place c.args.self.now.end items slots a b t st (placed c.args.link c.len.result c.args.self.now.lanes.items c.place_of.result (Some c.in-Some.place) c.place_of.ensures c.in-Some.is (c.len.ensures ∙ c.args.self.now.lanes.ok.0))
    (g.met.T.Teller.sound c.lose_at-told.new.teller) (λ e. (and_parts c.args.self.now.answered c.lose_at-told.result (sym c.both-self.ensures ∙ answered e)).1)
    (subst (λ (ls : List Lane). ChangesAt c.in-Some.place ls slots (λ old l. (x : things.Lane) → IsLane old x → LosesLane c.lose_at-told.result c.args.now x a l b)) c.as_mut_slice-lanes.ensures.value c.lose_at-told.ensures))

pub returns-in-Some-clause-kept : goal.returns-in-Some-clause-kept
returns-in-Some-clause-kept g c = λ e. (and_parts c.args.self.now.answered c.lose_at-told.result (sym c.both-self.ensures ∙ e)).0
