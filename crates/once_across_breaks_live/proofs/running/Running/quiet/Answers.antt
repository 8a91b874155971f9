use Rattle.std.proofs.Common.{List, length, arith, ap, sym, subst, ◌∙◌, Some, None}
use Rattle.once_across_breaks_code.specs.run.Things as things
use Rattle.once_across_breaks_live.specs.declared.happening.Happening.TheVariants as happenings
use Rattle.once_across_breaks_live.specs.declared.lane.Lane.{Lane}
use Rattle.once_across_breaks_live.specs.lemma.Lanes.{ChangesAt, IdlesLane, IsLane}
use Rattle.once_across_breaks_live.specs.lemma.Running.{Comes}
use Rattle.once_across_breaks_live.proofs.RunningLemmas.{lent_back, placed, quiet-comes, quiet-none}
use Rattle.once_across_breaks_live.proofs.running.Running.quiet.Goals as goal

pub returns-in-None-clause-comes : goal.returns-in-None-clause-comes
returns-in-None-clause-comes g c = λ block sure t answered st.
    quiet-none (record { block = block; answered = sure }) c.args.link c.args.now c.args.self.now.end c.args.self.now.lanes.items (g.T.Teller.shown c.args.self.now.teller) t st
    (placed c.args.link c.len.result c.args.self.now.lanes.items c.place_of.result None c.place_of.ensures c.in-None.is (c.len.ensures ∙ c.args.self.now.lanes.ok.0))

pub idle_at-requires : goal.idle_at-requires
idle_at-requires g c =
    let place = placed c.args.link c.len.result c.args.self.now.lanes.items c.place_of.result (Some c.in-Some.place) c.place_of.ensures c.in-Some.is (c.len.ensures ∙ c.args.self.now.lanes.ok.0) in
    omega (arith, place.2, ap length c.as_mut_slice-lanes.ensures.value)

pub returns-in-Some-clause-comes : goal.returns-in-Some-clause-comes
returns-in-Some-clause-comes g c = λ block sure t answered st.
    let items = c.args.self.now.lanes.items in
    let slots = c.idle_at.new.lanes in
    let a = g.T.Teller.shown c.args.self.now.teller in
    let b = g.T.Teller.shown c.idle_at.new.teller in
    let back = lent_back c.args.self.now.lanes.len slots items (omega (arith, c.idle_at.auto.lanes, ap length c.as_mut_slice-lanes.ensures.value)) (omega (arith, c.as_mut_slice-lanes.ensures.len, ap length c.as_mut_slice-lanes.ensures.value)) in
    subst (λ (ls : List Lane). Comes (record { block = block; answered = sure }) (happenings.Quiet c.args.link c.args.now) t c.args.self.now.end ls b) (sym back)
    (quiet-comes (record { block = block; answered = sure }) c.args.link c.args.now c.in-Some.place c.args.self.now.end items slots a b t st (placed c.args.link c.len.result c.args.self.now.lanes.items c.place_of.result (Some c.in-Some.place) c.place_of.ensures c.in-Some.is (c.len.ensures ∙ c.args.self.now.lanes.ok.0))
    (g.met.T.Teller.sound c.idle_at.new.teller)
    (subst (λ (ls : List Lane). ChangesAt c.in-Some.place ls slots (λ old l. (x : things.Lane) → IsLane old x → IdlesLane c.args.now x a l b)) c.as_mut_slice-lanes.ensures.value c.idle_at.ensures))
