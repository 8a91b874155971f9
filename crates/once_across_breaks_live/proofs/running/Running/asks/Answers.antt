use Rattle.std.proofs.Common.{◌-◌, List, length, arith, ap, sym, subst}
use Rattle.std.proofs.lemmas.Result.{on_ok_weaker}
use Rattle.once_across_breaks_live.specs.declared.happening.Happening.TheVariants as happenings
use Rattle.once_across_breaks_live.specs.declared.lane.Lane.{Lane}
use Rattle.once_across_breaks_live.specs.lemma.Lanes.{ChangesAt}
use Rattle.once_across_breaks_live.specs.lemma.Near.{AsksNear}
use Rattle.once_across_breaks_live.specs.lemma.Running.{Comes}
use Rattle.once_across_breaks_live.proofs.RunningLemmas.{asks-come, lent_back}
use Rattle.once_across_breaks_live.proofs.running.Running.asks.Goals as goal

pub ask_at-requires : goal.ask_at-requires
ask_at-requires g c = omega (arith, c.len-newest.ensures, c.args.self.now.lanes.ok.0, c.requires.1.size, ap length c.as_mut_slice-lanes.ensures.value)

pub returns-clause-comes : goal.returns-clause-comes
returns-clause-comes g c =
    let items = c.args.self.now.lanes.items in
    let slots = c.ask_at.new.lanes in
    let a = g.T.Teller.shown c.args.self.now.teller in
    let back = lent_back c.args.self.now.lanes.len slots items (omega (arith, c.ask_at.auto.lanes, ap length c.as_mut_slice-lanes.ensures.value)) (omega (arith, c.as_mut_slice-lanes.ensures.len, ap length c.as_mut_slice-lanes.ensures.value)) in
    on_ok_weaker c.ask_at.result
    (λ ch block sure t answered st.
    subst (λ (ls : List Lane). Comes (record { block = block; answered = sure }) (happenings.Asks c.args.call.now) t c.ask_at.new.end ls a) (sym back)
    (asks-come (record { block = block; answered = sure }) c.args.call.now (c.len-newest.result - 1) c.args.self.now.end c.ask_at.new.end items slots a t st (g.met.T.Teller.sound c.args.self.now.teller) (omega (arith, c.len-newest.ensures, c.args.self.now.lanes.ok.0))
    (subst (λ (ls : List Lane). ChangesAt (c.len-newest.result - 1) ls slots (λ old l. AsksNear c.args.call.now c.args.self.now.end old c.ask_at.new.end l)) c.as_mut_slice-lanes.ensures.value ch)))
    c.ask_at.ensures
