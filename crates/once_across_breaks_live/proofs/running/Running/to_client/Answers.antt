use Rattle.std.proofs.Common.{◌-◌, List, length, arith, ap, sym, subst, ◌∙◌}
use Rattle.std.proofs.lemmas.Result.{on_ok_weaker}
use Rattle.once_across_breaks_live.specs.declared.happening.Happening.TheVariants as happenings
use Rattle.once_across_breaks_live.specs.declared.lane.Lane.{Lane}
use Rattle.once_across_breaks_live.specs.lemma.Lanes.{ChangesAt}
use Rattle.once_across_breaks_live.specs.lemma.Near.{BringsNear}
use Rattle.once_across_breaks_live.specs.lemma.Running.{Comes}
use Rattle.once_across_breaks_live.proofs.RunningLemmas.{brings-come, brings-none, lent_back}
use Rattle.once_across_breaks_live.proofs.running.Running.to_client.Goals as goal

pub returns-then-link-len-clause-comes : goal.returns-then-link-len-clause-comes
returns-then-link-len-clause-comes g c = λ block sure t answered st.
    brings-none (record { block = block; answered = sure }) c.args.link c.args.most c.args.self.now.end c.args.self.now.lanes.items (g.T.Teller.shown c.args.self.now.teller) t st (λ e. c.if-link-len.true (e ∙ sym (c.len.ensures ∙ c.args.self.now.lanes.ok.0)))

pub bring_at-requires-clause-within : goal.bring_at-requires-clause-within
bring_at-requires-clause-within g c = omega (arith, c.len-newest.ensures, c.args.self.now.lanes.ok.0, c.requires.1.size, ap length c.as_mut_slice-lanes.ensures.value)

pub bring_at-requires-clause-most : goal.bring_at-requires-clause-most
bring_at-requires-clause-most g c = c.requires.1.most

pub returns-clause-comes : goal.returns-clause-comes
returns-clause-comes g c =
    let items = c.args.self.now.lanes.items in
    let slots = c.bring_at.new.lanes in
    let a = g.T.Teller.shown c.args.self.now.teller in
    let back = lent_back c.args.self.now.lanes.len slots items (omega (arith, c.bring_at.auto.lanes, ap length c.as_mut_slice-lanes.ensures.value)) (omega (arith, c.as_mut_slice-lanes.ensures.len, ap length c.as_mut_slice-lanes.ensures.value)) in
    on_ok_weaker c.bring_at.result
    (λ ch block sure t answered st.
    subst (λ (ls : List Lane). Comes (record { block = block; answered = sure }) (happenings.ToClient c.args.link c.args.most) t c.bring_at.new.end ls a) (sym back)
    (brings-come (record { block = block; answered = sure }) c.args.link c.args.most (c.len-newest.result - 1) c.args.self.now.end c.bring_at.new.end items slots a t st (g.met.T.Teller.sound c.args.self.now.teller) (c.if-link-len.false ∙ c.len.ensures ∙ c.args.self.now.lanes.ok.0) (omega (arith, c.len-newest.ensures, c.args.self.now.lanes.ok.0))
    (subst (λ (ls : List Lane). ChangesAt (c.len-newest.result - 1) ls slots (λ old l. BringsNear c.args.most c.args.self.now.end old c.bring_at.new.end l)) c.as_mut_slice-lanes.ensures.value ch)))
    c.bring_at.ensures
