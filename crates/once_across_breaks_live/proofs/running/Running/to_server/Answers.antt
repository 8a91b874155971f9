use Rattle.std.proofs.Common.{List, length, arith, ap, sym, subst, ◌∙◌, Some, None}
use Rattle.std.specs.Prelude.{slice_get}
use Rattle.std.proofs.lemmas.Bool.{and_parts}
use Rattle.once_across_breaks_code.specs.run.Things as things
use Rattle.once_across_breaks_live.specs.declared.happening.Happening.TheVariants as happenings
use Rattle.once_across_breaks_live.specs.declared.lane.Lane.{Lane}
use Rattle.once_across_breaks_live.specs.lemma.Lanes.{ChangesAt, FeedsLane, IsLane}
use Rattle.once_across_breaks_live.specs.lemma.Running.{Comes}
use Rattle.once_across_breaks_live.proofs.RunningLemmas.{lent_back, placed, server-comes, server-none}
use Rattle.once_across_breaks_live.proofs.running.Running.to_server.Goals as goal

pub returns-in-None-clause-comes : goal.returns-in-None-clause-comes
returns-in-None-clause-comes g c = λ block sure t answered st.
    server-none (record { block = block; answered = sure }) c.args.link c.args.most c.args.now c.args.self.now.end c.args.self.now.lanes.items (g.T.Teller.shown c.args.self.now.teller) t st
    (placed c.args.link c.len.result c.args.self.now.lanes.items c.place_of.result None c.place_of.ensures c.in-None.is (c.len.ensures ∙ c.args.self.now.lanes.ok.0))

pub feed_at-requires-clause-within : goal.feed_at-requires-clause-within
feed_at-requires-clause-within g c =
    let place = placed c.args.link c.len.result c.args.self.now.lanes.items c.place_of.result (Some c.in-Some.place) c.place_of.ensures c.in-Some.is (c.len.ensures ∙ c.args.self.now.lanes.ok.0) in
    omega (arith, place.2, ap length c.as_mut_slice-lanes.ensures.value)

pub feed_at-requires-clause-is : goal.feed_at-requires-clause-is
feed_at-requires-clause-is g c = λ l at. (c.requires.0.lanes c.in-Some.place, c.requires.1.each c.in-Some.place l (ap (λ (ls : List Lane). slice_get ls c.in-Some.place) (sym c.as_mut_slice-lanes.ensures.value) ∙ at))

pub returns-in_ok-told-in-Some-clause-comes : goal.returns-in_ok-told-in-Some-clause-comes
returns-in_ok-told-in-Some-clause-comes g c = λ block sure t answered st.
    let items = c.args.self.now.lanes.items in
    let slots = c.feed_at.new.lanes in
    let a = g.T.Teller.shown c.args.self.now.teller in
    let b = g.T.Teller.shown c.feed_at.new.teller in
    let back = lent_back c.args.self.now.lanes.len slots items (omega (arith, c.feed_at.auto.lanes, ap length c.as_mut_slice-lanes.ensures.value)) (omega (arith, c.as_mut_slice-lanes.ensures.len, ap length c.as_mut_slice-lanes.ensures.value)) in
    subst (λ (ls : List Lane). Comes (record { block = block; answered = sure }) (happenings.ToServer c.args.link c.args.most c.args.now) t c.args.self.now.end ls b) (sym back)
    (server-comes (record { block = block; answered = sure }) c.in_ok-told-in-Some.told c.args.link c.args.most c.args.now c.in-Some.place c.args.self.now.end items slots a b t st (placed c.args.link c.len.result c.args.self.now.lanes.items c.place_of.result (Some c.in-Some.place) c.place_of.ensures c.in-Some.is (c.len.ensures ∙ c.args.self.now.lanes.ok.0))
    (g.met.T.Teller.sound c.feed_at.new.teller) (λ e. (and_parts c.args.self.now.answered c.in_ok-told-in-Some.told (sym c.both-self.ensures ∙ answered e)).1)
    (subst (λ (ls : List Lane). ChangesAt c.in-Some.place ls slots (λ old l. (x : things.Lane) → IsLane old x → FeedsLane c.in_ok-told-in-Some.told c.args.most c.args.now x a l b)) c.as_mut_slice-lanes.ensures.value c.in_ok-told-in-Some.ensures))

pub returns-in_ok-told-in-Some-clause-kept : goal.returns-in_ok-told-in-Some-clause-kept
returns-in_ok-told-in-Some-clause-kept g c = λ e. (and_parts c.args.self.now.answered c.in_ok-told-in-Some.told (sym c.both-self.ensures ∙ e)).0
